-- Rows that are laid out one after another are read back. Assumes nothing.
use Rattle.std.proofs.Common.{◌≡◌, ℕ, ◌+◌, ◌≤◌, Bool, true, false, List, [], ◌∷◌, ◌++◌, map, length, take, drop, None, Ok, Option, sym, refl, ap, ◌∙◌, append_assoc, append-nil, arith, length-append}
use Rattle.std.specs.List.{flat_map, AllByRecursion}
use Rattle.std.proofs.lemmas.List.{drop_at, take_at}
use Rattle.std.proofs.lemmas.Bool.{le-ltb, not_from_true}
use Rattle.terms.specs.declared.refusal.Refusal.{Refusal}
use Rattle.tables.specs.Kinds.{Kind, rows_from, row_bytes, row_fault, fixed_at, name_at, end_at, unless, or_else, when}

-- a row and its name that can be read back
pub record Back {R : Type 0} (k : Kind R) (e : R × List ℕ) : Type 0 where
  pub long : length (k.fixed e.0 (length e.1)) ≡ k.width
  pub value : k.value (k.fixed e.0 (length e.1)) ≡ e.0
  pub name : k.name_length (k.fixed e.0 (length e.1)) ≡ length e.1
  pub ok : k.name_ok e.1 ≡ true

-- no row has a fault after those before it
abbrev pub Clear : {R : Type 0} → Kind R → ℕ → List (R × List ℕ) → List (R × List ℕ) → Type 0
Clear k parts before [] = Unit {0}
Clear k parts before (e ∷ es) = ((at : ℕ) → k.fault at parts (map (λ x. x.0) before) e.0 ≡ None) × Clear k parts (before ++ e ∷ []) es

none_all : (a : Bool) (f : Refusal) (q : Option Refusal) (b : Bool) (g : Refusal) (c : Bool) (h : Refusal) → a ≡ false → q ≡ None → b ≡ false → c ≡ false → when a f (or_else q (when b g (when c h None))) ≡ None
none_all a f q b g c h ea eq eb ec = λ i. when (ea i) f (or_else (eq i) (when (eb i) g (when (ec i) h None)))

module _ {R : Type 0} (k : Kind R) (parts : ℕ) (file : List ℕ) where
  -- the row that stands after `front`
  record Here (front : List ℕ) (before : List R) (e : R × List ℕ) : Type 0 where
    fixed : fixed_at k file (length front) ≡ k.fixed e.0 (length e.1)
    name : name_at k file (length front) ≡ e.1
    next : end_at k file (length front) ≡ length (front ++ row_bytes k e)
    sound : row_fault k file parts (length front) before ≡ None

  here : (front tail : List ℕ) (before : List R) (e : R × List ℕ) → file ≡ front ++ (row_bytes k e ++ tail) → Back k e → ((at : ℕ) → k.fault at parts before e.0 ≡ None) → Here front before e
  here front tail before e is b clear =
      let o = length front in
      let w = k.width in
      let fx = k.fixed e.0 (length e.1) in
      let nm = e.1 in
      let split : file ≡ front ++ (fx ++ (nm ++ tail)) = is ∙ ap (λ x. front ++ x) (append_assoc fx nm tail) in
      let past : file ≡ (front ++ fx) ++ (nm ++ tail) = split ∙ sym (append_assoc front fx (nm ++ tail)) in
      let fixed : fixed_at k file o ≡ fx = ap (λ x. take w (drop o x)) split ∙ ap (take w) (drop_at front (fx ++ (nm ++ tail)) o refl) ∙ take_at fx (nm ++ tail) w b.long in
      let len : k.name_length (fixed_at k file o) ≡ length nm = ap k.name_length fixed ∙ b.name in
      let ahead : length (front ++ fx) ≡ o + w = length-append front fx ∙ ap (λ x. o + x) b.long in
      let name : name_at k file o ≡ nm =
      ap (λ x. take x (drop (o + w) file)) len ∙ ap (λ x. take (length nm) (drop (o + w) x)) past ∙ ap (take (length nm)) (drop_at (front ++ fx) (nm ++ tail) (o + w) ahead) ∙ take_at nm tail (length nm) refl in
      let next : end_at k file o ≡ length (front ++ row_bytes k e) = omega (arith, len, length-append front (fx ++ nm), length-append fx nm, b.long) in
      let whole : length file ≡ o + (w + (length nm + length tail)) =
      ap length split ∙ length-append front (fx ++ (nm ++ tail)) ∙ ap (λ x. o + x) (length-append fx (nm ++ tail) ∙ (λ i. b.long i + length-append nm tail i)) in
      let first : o + w ≤ length file = omega (arith, whole) in
      let all : end_at k file o ≤ length file = omega (arith, whole, len) in
      record {
        fixed = fixed;
        name = name;
        next = next;
        sound = none_all _ _ _ _ _ _ _ (le-ltb _ _ first) (ap (k.fault o parts before) (ap k.value fixed ∙ b.value) ∙ clear o) (le-ltb _ _ all) (not_from_true _ (ap k.name_ok name ∙ b.ok));
      }

  pub reread : (es : List (R × List ℕ)) (front tail : List ℕ) (before : List (R × List ℕ)) → file ≡ front ++ (flat_map (row_bytes k) es ++ tail) → AllByRecursion (Back k) es → Clear k parts before es → rows_from k file parts (length es) (length front) before ≡ Ok (length (front ++ flat_map (row_bytes k) es), before ++ es)
  reread [] front tail before is b c = λ i. Ok (length (sym (append-nil front) i), sym (append-nil before) i)
  reread (e ∷ es) front tail before is b c =
      let rest = flat_map (row_bytes k) es in
      let after : file ≡ front ++ (row_bytes k e ++ (rest ++ tail)) = is ∙ ap (λ x. front ++ x) (append_assoc (row_bytes k e) rest tail) in
      let h = here front (rest ++ tail) (map (λ x. x.0) before) e after b.0 c.0 in
      let value = ap k.value h.fixed ∙ b.0.value in
      let on = reread es (front ++ row_bytes k e) tail (before ++ e ∷ []) (after ∙ sym (append_assoc front (row_bytes k e) (rest ++ tail))) b.1 c.1 in
      (λ i. unless (h.sound i) (rows_from k file parts (length es) (h.next i) (before ++ (value i, h.name i) ∷ [])))
      ∙ on ∙ (λ i. Ok (length (append_assoc front (row_bytes k e) rest i), append_assoc before (e ∷ []) es i))
