-- Rows of the file, of any kind: which row is refused and why, and what a run of rows holds. Assumes nothing.
use Rattle.std.specs.Prelude.{ℕ, zero, suc, ◌+◌, Bool, cond, not, ◌&&◌, List, [], ◌∷◌, ◌++◌, map, length, take, drop, Some, None, Ok, Err, Option, Result, nat_lt}
use Rattle.std.specs.List.{list_all}
use Rattle.terms.specs.Checks.{within}
use Rattle.terms.specs.declared.refusal.Refusal.{Refusal}
use Rattle.terms.specs.declared.refusal.Refusal.TheVariants.{Incomplete, BadName}
use Rattle.terms.specs.Refusals.{told}
use Rattle.tables.specs.declared.file_row.FileRow.{FileRow}

-- a kind of row
pub record Kind (R : Type 0) : Type 0 where
  -- its width in bytes, without the name
  pub width : ℕ
  -- what a fixed part says
  pub value : List ℕ → R
  -- what is wrong with a row at an offset, where there are so many partitions and these rows come before
  pub fault : ℕ → ℕ → List R → R → Option Refusal
  -- the length of the name that follows a fixed part
  pub name_length : List ℕ → ℕ
  pub name_ok : List ℕ → Bool
  -- whether a row as it is handed out is of this kind
  pub handed : FileRow → Bool
  -- the fixed part of a row whose name is so long
  pub fixed : R → ℕ → List ℕ

-- a name has a byte at least, and each from 33 to 126
abbrev pub good_name : List ℕ → Bool
good_name name = nat_lt 0 (length name) && list_all (within 33 126) name

-- a fault where a test is met, else another
abbrev pub when : Bool → Refusal → Option Refusal → Option Refusal
when b f other = cond b (Some f) other

abbrev pub or_else : Option Refusal → Option Refusal → Option Refusal
or_else None other = other
or_else (Some f) other = Some f

-- a fault refuses, by its number and what it tells
abbrev pub unless : {X : Type 0} → Option Refusal → Result X (ℕ × ℕ) → Result X (ℕ × ℕ)
unless (Some f) q = Err (told f)
unless None q = q

abbrev pub and_then : {X Y : Type 0} → Result X (ℕ × ℕ) → (X → Result Y (ℕ × ℕ)) → Result Y (ℕ × ℕ)
and_then (Ok x) f = f x
and_then (Err e) f = Err e

-- n bytes of the file from offset o
abbrev pub part : List ℕ → ℕ → ℕ → List ℕ
part file o n = take n (drop o file)

module _ {R : Type 0} (k : Kind R) (file : List ℕ) where
  abbrev pub fixed_at : ℕ → List ℕ
  fixed_at o = part file o k.width

  abbrev pub name_at : ℕ → List ℕ
  name_at o = part file (o + k.width) (k.name_length (fixed_at o))

  abbrev pub end_at : ℕ → ℕ
  end_at o = o + k.width + k.name_length (fixed_at o)

  -- what is wrong with the row at offset o, by the order of the checks
  abbrev pub row_fault : ℕ → ℕ → List R → Option Refusal
  row_fault parts o before =
      when (nat_lt (length file) (o + k.width)) (Incomplete o)
      (or_else (k.fault o parts before (k.value (fixed_at o)))
      (when (nat_lt (length file) (end_at o)) (Incomplete o)
      (when (not (k.name_ok (name_at o))) (BadName o) None)))

  -- n rows from offset o on, each with its name, after those of `es`; or the first bad row
  abbrev pub rows_from : ℕ → ℕ → ℕ → List (R × List ℕ) → Result (ℕ × List (R × List ℕ)) (ℕ × ℕ)
  rows_from parts zero o es = Ok (o, es)
  rows_from parts (suc n) o es =
      unless (row_fault parts o (map (λ e. e.0) es)) (rows_from parts n (end_at o) (es ++ (k.value (fixed_at o), name_at o) ∷ []))

-- a row and its name as bytes
abbrev pub row_bytes : {R : Type 0} → Kind R → R × List ℕ → List ℕ
row_bytes k e = k.fixed e.0 (length e.1) ++ e.1
