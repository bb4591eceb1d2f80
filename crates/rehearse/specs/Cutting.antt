-- A text that is cut at a mark, piece by piece. Assumes nothing.
use Rattle.std.specs.Prelude.{◌≡◌, ℕ, ◌+◌, ◌<◌, List, length, take, drop, Some, None, Option, ◌≢◌, slice_index}

-- what is left behind a piece of n bytes: nothing at the end of the text, else all behind the mark that follows
abbrev pub Behind : ℕ → List ℕ → ℕ → Option (List ℕ) → Type 0
Behind mark text n None = n ≡ length text
Behind mark text n (Some rest) = (n < length text) × (slice_index text n ≡ mark) × (rest ≡ drop (n + 1) text)

-- the first piece of a text: its front up to the first mark
pub record Cut (mark : ℕ) (text piece : List ℕ) (rest : Option (List ℕ)) : Type 0 where
  pub front : piece ≡ take (length piece) text
  pub unmarked : (k : ℕ) → k < length piece → slice_index piece k ≢ mark
  pub behind : Behind mark text (length piece) rest

-- one step: none once the text has ended, else the next piece
abbrev pub Cuts : ℕ → Option (List ℕ) → Option (List ℕ) → Option (List ℕ) → Type 0
Cuts mark None None rest = rest ≡ None
Cuts mark None (Some piece) rest = ⊥
Cuts mark (Some text) None rest = ⊥
Cuts mark (Some text) (Some piece) rest = Cut mark text piece rest

-- how many pieces a text has at most
abbrev pub most : Option (List ℕ) → ℕ
most None = 0
most (Some text) = length text + 1
