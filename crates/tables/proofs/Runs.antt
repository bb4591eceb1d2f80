-- A run of rows that is accepted: what it holds, and the bytes that it stands in. Assumes nothing.
use Rattle.std.proofs.Common.{◌≡◌, ℕ, zero, suc, ◌+◌, ◌<◌, ◌≤◌, List, [], ◌∷◌, ◌++◌, map, length, take, drop, Some, None, Ok, Err, Option, Result, sym, refl, ap, ◌∙◌, subst, append_assoc, append-nil, arith, length-drop, take-append-drop, length-take}
use Rattle.std.specs.List.{flat_map, AllByRecursion}
use Rattle.std.specs.Int.Digits.{AllBelowBase}
use Rattle.std.proofs.lemmas.List.{flat_map_more, length_push, drop-take, take-take}
use Rattle.std.proofs.ByRecursion.{All-take, All-drop, All-push}
use Rattle.terms.specs.declared.refusal.Refusal.{Refusal}
use Rattle.tables.specs.Kinds.{Kind, rows_from, row_bytes, row_fault, fixed_at, name_at, end_at, and_then, unless}
use Rattle.tables.proofs.Walk.{sound, Sound, fixed_long}

-- a kind whose fixed part can be made again from what it holds
abbrev pub Faithful : {R : Type 0} → Kind R → Type 0
Faithful k = (b : List ℕ) → AllBelowBase 256 b → length b ≡ k.width → k.fixed (k.value b) (k.name_length b) ≡ b

take_add : (xs : List ℕ) (m n : ℕ) → take (m + n) xs ≡ take m xs ++ take n (drop m xs)
take_add xs m n = sym (take-append-drop m (take (m + n) xs)) ∙ (λ i. take-take m (m + n) xs (omega arith) i ++ drop-take m n xs i)

pub ok_inj : {X : Type 0} {x y : X} → ◌≡◌ {A = Result X (ℕ × ℕ)} (Ok x) (Ok y) → x ≡ y
ok_inj e = cc

pub no_ok : {X : Type 0} {x : X} {r : ℕ × ℕ} → ◌≡◌ {A = Result X (ℕ × ℕ)} (Err r) (Ok x) → ⊥
no_ok e = let z : ◌≡◌ {A = ℕ} 0 1 = cc in omega arith

-- what an accepted check lets through
pub ok_unless : {X : Type 0} (f : Option Refusal) (q : Result X (ℕ × ℕ)) (x : X) → unless f q ≡ Ok x → (f ≡ None) × (q ≡ Ok x)
ok_unless (Some f) q x e = absurd (no_ok e)
ok_unless None q x e = (refl, e)

pub ok_then : {X Y : Type 0} (q : Result X (ℕ × ℕ)) (f : X → Result Y (ℕ × ℕ)) (y : Y) → and_then q f ≡ Ok y → (x : X) × (q ≡ Ok x) × (f x ≡ Ok y)
ok_then (Ok x) f y e = (x, refl, e)
ok_then (Err r) f y e = absurd (no_ok e)

module _ {R : Type 0} (k : Kind R) (file : List ℕ) (parts : ℕ) (P : R × List ℕ → Type 0) (each : (o : ℕ) (before : List R) → Sound k file parts o before → P (k.value (fixed_at k file o), name_at k file o)) (under : AllBelowBase 256 file) (faithful : Faithful k) where
  -- the file up to o is `front` and these rows
  record Laid (front : List ℕ) (o : ℕ) (es : List (R × List ℕ)) : Type 0 where
    text : take o file ≡ front ++ flat_map (row_bytes k) es
    inside : o ≤ length file
    all : AllByRecursion P es

  laid_one : (front : List ℕ) (o : ℕ) (es : List (R × List ℕ)) (before : List R) → Sound k file parts o before → Laid front o es → Laid front (end_at k file o) (es ++ (k.value (fixed_at k file o), name_at k file o) ∷ [])
  laid_one front o es before s h =
      let fx = fixed_at k file o in
      let nm = name_at k file o in
      let long : length nm ≡ k.name_length fx = simp (length-take, length-drop) (omega (arith, s.whole)) in
      let made : row_bytes k (k.value fx, nm) ≡ fx ++ nm =
      ap (λ x. k.fixed (k.value fx) x ++ nm) long ∙ ap (λ x. x ++ nm) (faithful fx (All-take (λ d. d < 256) k.width (drop o file) (All-drop (λ d. d < 256) o file under)) (fixed_long k file o s.fixed)) in
      let back = sym made in
      let whole : take (end_at k file o) file ≡ take o file ++ (fx ++ nm) =
      take_add file (o + k.width) (k.name_length fx) ∙ ap (λ x. x ++ nm) (take_add file o k.width) ∙ append_assoc (take o file) fx nm in
      record {
        text = whole ∙ (λ i. h.text i ++ back i) ∙ flat_map_more (row_bytes k) front es (k.value fx, nm);
        inside = s.whole;
        all = All-push P es (k.value fx, nm) h.all (each o before s);
      }

  laid : (n : ℕ) (front : List ℕ) (o : ℕ) (es : List (R × List ℕ)) (to : ℕ) (fs : List (R × List ℕ)) → rows_from k file parts n o es ≡ Ok (to, fs) → Laid front o es → Laid front to fs × (length fs ≡ length es + n)
  laid zero front o es to fs e h =
      let p = ok_inj e in
      (subst (λ x. Laid front x.0 x.1) p h, omega (arith, ap (λ x. length x.1) p))
  laid (suc n) front o es to fs e h =
      let p = ok_unless (row_fault k file parts o (map (λ e. e.0) es)) _ (to, fs) e in
      let s = sound k file parts o (map (λ e. e.0) es) p.0 in
      let rest = laid n front (end_at k file o) (es ++ (k.value (fixed_at k file o), name_at k file o) ∷ []) to fs p.1 (laid_one front o es (map (λ e. e.0) es) s h) in
      (rest.0, omega (arith, rest.1, length_push es (k.value (fixed_at k file o), name_at k file o)))

  -- a run of rows that is accepted
  pub record Ran (o n to : ℕ) (fs : List (R × List ℕ)) : Type 0 where
    pub text : take to file ≡ take o file ++ flat_map (row_bytes k) fs
    pub inside : to ≤ length file
    pub all : AllByRecursion P fs
    pub count : length fs ≡ n

  pub ran : (n o to : ℕ) (fs : List (R × List ℕ)) → rows_from k file parts n o [] ≡ Ok (to, fs) → o ≤ length file → Ran o n to fs
  ran n o to fs e h =
      let l = laid n (take o file) o [] to fs e (record { text = sym (append-nil (take o file)); inside = h; all = tt }) in
      record { text = l.0.text; inside = l.0.inside; all = l.0.all; count = omega (arith, l.1) }
