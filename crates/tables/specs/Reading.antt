-- What reading a file answers, and what an accepted file is. Assumes nothing.
use Rattle.std.specs.Prelude.{◌≡◌, ℕ, List, Ok, Err}
use Rattle.std.specs.Int.Digits.{AllBelowBase}
use Rattle.terms.specs.declared.refusal.Refusal.{Refusal}
use Rattle.terms.specs.Refusals.{told}
use Rattle.tables.specs.Contents.{Book, decode}
use Rattle.tables.specs.Layout.{Tabled, Named, InRange, tables_of, names_of, layout}

-- the file is accepted, and t are its tables
pub record Accepted (file : List ℕ) (t : Tabled) : Type 0 where
  pub book : Book
  pub is : decode file ≡ Ok book
  pub whole : file ≡ layout (tables_of book) (names_of book)
  pub tables : t ≡ tables_of book

-- the file is refused, and this is its first fault
abbrev pub Refused : List ℕ → Refusal → Type 0
Refused file e = decode file ≡ Err (told e)

-- an accepted file is the layout of its tables and names
abbrev pub LaidOut : Type 0
LaidOut = (file : List ℕ) (b : Book) → AllBelowBase 256 file → decode file ≡ Ok b → file ≡ layout (tables_of b) (names_of b)

-- two accepted files with the same tables and names are equal byte for byte
abbrev pub OneFile : Type 0
OneFile =
    (f g : List ℕ) (b c : Book) → AllBelowBase 256 f → AllBelowBase 256 g → decode f ≡ Ok b → decode g ≡ Ok c
    → tables_of b ≡ tables_of c → names_of b ≡ names_of c → f ≡ g

-- the layout of tables and names in range is accepted, and gives them back
abbrev pub GivenBack : Type 0
GivenBack =
    (t : Tabled) (n : Named) → InRange t n
    → (b : Book) × (decode (layout t n) ≡ Ok b) × (tables_of b ≡ t) × (names_of b ≡ n)
