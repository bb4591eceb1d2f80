-- What the reader's calls answer. Assumes nothing.
use Rattle.std.specs.Prelude.{◌≡◌, ℕ, ◌+◌, ◌≤◌, true, List, [], map, length, Some, None, Ok, Err}
use Rattle.terms.specs.declared.refusal.Refusal.{Refusal}
use Rattle.terms.specs.Refusals.{told}
use Rattle.tables.specs.declared.file_row.FileRow.{FileRow}
use Rattle.tables.specs.declared.header.Header.{Header}
use Rattle.tables.specs.Kinds.{Kind, row_fault, fixed_at, name_at, end_at, rows_from}
use Rattle.tables.specs.Contents.{header_fault, header_of, head_at, end_fault}
use Rattle.tables.specs.Handed.{fixed_of, name_of, offset_of}

-- the header at o is sound, and h has its fields; the reader stands at `to` then
pub record Headed (file : List ℕ) (o : ℕ) (h : Header) (to : ℕ) : Type 0 where
  pub sound : header_fault file o ≡ None
  pub is : h ≡ header_of (head_at file o)
  pub next : to ≡ o + 3
  pub inside : to ≤ length file

-- the header at o has this fault; the reader stays
pub record HeadBad (file : List ℕ) (o : ℕ) (e : Refusal) (to : ℕ) : Type 0 where
  pub fault : header_fault file o ≡ Some e
  pub stays : to ≡ o

-- the row at o is sound, and w has its parts; the reader stands at `to` then
pub record Found {R : Type 0} (k : Kind R) (file : List ℕ) (parts o : ℕ) (before : List R) (w : FileRow) (to : ℕ) : Type 0 where
  pub sound : row_fault k file parts o before ≡ None
  pub sort : k.handed w ≡ true
  pub fixed : fixed_of w ≡ fixed_at k file o
  pub name : name_of w ≡ name_at k file o
  pub offset : offset_of w ≡ o
  pub next : to ≡ end_at k file o
  pub inside : to ≤ length file

-- the row at o has this fault; the reader stays
pub record Bad {R : Type 0} (k : Kind R) (file : List ℕ) (parts o : ℕ) (before : List R) (e : Refusal) (to : ℕ) : Type 0 where
  pub fault : row_fault k file parts o before ≡ Some e
  pub stays : to ≡ o

-- the n rows from o on are sound and hold xs; the reader stands at `to` then
pub record Held {R : Type 0} (k : Kind R) (file : List ℕ) (parts n o : ℕ) (xs : List R) (to : ℕ) : Type 0 where
  pub entries : List (R × List ℕ)
  pub are : rows_from k file parts n o [] ≡ Ok (to, entries)
  pub hold : xs ≡ map (λ e. e.0) entries
  pub inside : to ≤ length file

-- one of the n rows from o on is bad, and this is the fault of the first
abbrev pub RefusedRows : {R : Type 0} → Kind R → List ℕ → ℕ → ℕ → ℕ → Refusal → Type 0
RefusedRows k file parts n o e = rows_from k file parts n o [] ≡ Err (told e)

-- nothing follows o
abbrev pub Ended : List ℕ → ℕ → Type 0
Ended file o = end_fault file o ≡ None

abbrev pub Unended : List ℕ → ℕ → Refusal → Type 0
Unended file o e = end_fault file o ≡ Some e
