-- A run of rows, step by step. Assumes nothing.
use Rattle.std.proofs.Common.{◌≡◌, ℕ, suc, ◌+◌, ◌-◌, ◌<◌, ◌≤◌, Bool, true, false, List, [], ◌∷◌, ◌++◌, map, length, Some, None, Err, Option, Result, sym, refl, ap, ◌∙◌, subst, arith, length-drop, length-take, MatchResult}
use Rattle.std.proofs.lemmas.List.{map_push}
use Rattle.std.proofs.lemmas.Bool.{ltb-false, not-false}
use Rattle.terms.specs.declared.refusal.Refusal.{Refusal}
use Rattle.tables.specs.declared.file_row.FileRow.{FileRow}
use Rattle.tables.specs.Kinds.{Kind, row_fault, fixed_at, name_at, end_at, rows_from, or_else, unless, when}
use Rattle.tables.specs.Handed.{fixed_of}
use Rattle.tables.specs.Answers.{Found, Bad, RefusedRows}

pub never : {X : Type 0} {f : X} → Some f ≡ None → ⊥
never e = let z : ◌≡◌ {A = ℕ} 0 1 = cc in omega arith

pub none_when : (b : Bool) (f : Refusal) (q : Option Refusal) → when b f q ≡ None → (b ≡ false) × (q ≡ None)
none_when true f q e = absurd (never e)
none_when false f q e = (refl, e)

pub none_else : (p q : Option Refusal) → or_else p q ≡ None → (p ≡ None) × (q ≡ None)
none_else None q e = (refl, e)
none_else (Some f) q e = absurd (never e)

-- what a sound row is
pub record Sound {R : Type 0} (k : Kind R) (file : List ℕ) (parts o : ℕ) (before : List R) : Type 0 where
  pub fixed : o + k.width ≤ length file
  pub whole : end_at k file o ≤ length file
  pub holds : k.fault o parts before (k.value (fixed_at k file o)) ≡ None
  pub name : k.name_ok (name_at k file o) ≡ true

pub sound : {R : Type 0} (k : Kind R) (file : List ℕ) (parts o : ℕ) (before : List R) → row_fault k file parts o before ≡ None → Sound k file parts o before
sound k file parts o before e =
    let a = none_when _ _ _ e in
    let b = none_else _ _ a.1 in
    let c = none_when _ _ _ b.1 in
    record { fixed = ltb-false _ _ a.0; whole = ltb-false _ _ c.0; holds = b.0; name = not-false _ (none_when _ _ _ c.1).0 }

pub fixed_long : {R : Type 0} (k : Kind R) (file : List ℕ) (o : ℕ) → o + k.width ≤ length file → length (fixed_at k file o) ≡ k.width
fixed_long k file o h = simp (length-take, length-drop) (omega arith)

module _ {R : Type 0} (k : Kind R) (file : List ℕ) (parts n o : ℕ) (es : List (R × List ℕ)) where
  -- what one row does, where q is its fault
  abbrev pub after : Option Refusal → Result (ℕ × List (R × List ℕ)) (ℕ × ℕ)
  after q = unless q (rows_from k file parts n (end_at k file o) (es ++ (k.value (fixed_at k file o), name_at k file o) ∷ []))

-- i of n rows from o on are read and hold xs; the reader stands at `at`
pub record Sofar {R : Type 0} (k : Kind R) (file : List ℕ) (parts n o i : ℕ) (seen : List ℕ) (at : ℕ) (xs : List R) : Type 0 where
  pub entries : List (R × List ℕ)
  pub same : seen ≡ file
  pub hold : xs ≡ map (λ e. e.0) entries
  pub rest : rows_from k file parts (n - i) at entries ≡ rows_from k file parts n o []
  pub inside : at ≤ length file

module _ {R : Type 0} (k : Kind R) (file : List ℕ) (parts n o : ℕ) where
  -- what is left at a row, where its fault is q
  left : (i at : ℕ) (xs : List R) → i < n → (h : Sofar k file parts n o i file at xs) → (q : Option Refusal) → row_fault k file parts at xs ≡ q → after k file parts (n - (i + 1)) at h.entries q ≡ rows_from k file parts n o []
  left i at xs lt h q e =
      let one : n - i ≡ suc (n - (i + 1)) = omega arith in
      sym (ap (λ ys. after k file parts (n - (i + 1)) at h.entries (row_fault k file parts at ys)) (sym h.hold) ∙ ap (after k file parts (n - (i + 1)) at h.entries) e)
      ∙ ap (λ m. rows_from k file parts m at h.entries) (sym one) ∙ h.rest

  step : (i at : ℕ) (xs : List R) (w : FileRow) (to : ℕ) → i < n → Sofar k file parts n o i file at xs → Found k file parts at xs w to → Sofar k file parts n o (i + 1) file to (xs ++ k.value (fixed_of w) ∷ [])
  step i at xs w to lt h f =
      record {
        entries = h.entries ++ (k.value (fixed_at k file at), name_at k file at) ∷ [];
        same = refl;
        hold = (λ j. h.hold j ++ k.value (f.fixed j) ∷ []) ∙ sym (map_push (λ e. e.0) h.entries (k.value (fixed_at k file at), name_at k file at));
        rest = ap (λ to'. rows_from k file parts (n - (i + 1)) to' (h.entries ++ (k.value (fixed_at k file at), name_at k file at) ∷ [])) f.next ∙ left i at xs lt h None f.sound;
        inside = f.inside;
      }

  -- a step, where the reader has the file as `seen`, and the rows so far as `ys`
  pub stepped : (i : ℕ) (seen seen' : List ℕ) (at : ℕ) (xs ys zs : List R) (w : FileRow) (to : ℕ) → i < n → Sofar k file parts n o i seen at xs → Found k seen parts at ys w to → ys ≡ xs → seen' ≡ seen → zs ≡ xs ++ k.value (fixed_of w) ∷ [] → Sofar k file parts n o (i + 1) seen' to zs
  stepped i seen seen' at xs ys zs w to lt h f e same all =
      let there = step i at xs w to lt (record { entries = h.entries; same = refl; hold = h.hold; rest = h.rest; inside = h.inside }) (subst (λ s. Found k s parts at xs w to) h.same (subst (λ z. Found k seen parts at z w to) e f)) in
      record { entries = there.entries; same = same ∙ h.same; hold = all ∙ there.hold; rest = there.rest; inside = there.inside }

  pub badly : (i : ℕ) (seen : List ℕ) (at : ℕ) (xs ys : List R) (e : Refusal) (to : ℕ) → i < n → Sofar k file parts n o i seen at xs → Bad k seen parts at ys e to → ys ≡ xs → RefusedRows k file parts n o e
  badly i seen at xs ys e to lt h b eq =
      let here : Sofar k file parts n o i file at xs = record { entries = h.entries; same = refl; hold = h.hold; rest = h.rest; inside = h.inside } in
      let there : Bad k file parts at xs e to = subst (λ s. Bad k s parts at xs e to) h.same (subst (λ z. Bad k seen parts at z e to) eq b) in
      sym (left i at xs lt here (Some e) there.fault)

pub at_err : {X E : Type 0} {r : Result X E} (P : X → Type 0) (Q : E → Type 0) (y : E) → r ≡ Err y → Q y → MatchResult r P Q
at_err P Q y e q = subst (λ r. MatchResult r P Q) (sym e) q
