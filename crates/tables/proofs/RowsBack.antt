-- Rows in range can be read back, and have no fault. Assumes nothing.
use Rattle.std.proofs.Common.{◌≡◌, ℕ, ◌+◌, ◌-◌, ◌<◌, ◌≤◌, Bool, true, cond, not, eqb, List, [], ◌∷◌, ◌++◌, map, length, get_or, None, sym, refl, ap, ◌∙◌, subst, append_assoc, arith}
use Rattle.std.specs.List.{AllByRecursion}
use Rattle.std.proofs.lemmas.List.Sums.{sum_by-append, sum_by-cons}
use Rattle.std.proofs.lemmas.List.{map_push, length_push, get_or_push}
use Rattle.std.proofs.lemmas.Bool.{le-leb, lt-leb, lt-ltb, eq-eqb, and_from, or_from, or_right, not_from_true}
use Rattle.terms.specs.Units.{Picos, Requests}
use Rattle.terms.specs.declared.refusal.Refusal.TheVariants.{FieldRange, RowPartition, LinkOrder, PartitionFull}
use Rattle.tables.specs.declared.model.Partition.{Partition}
use Rattle.tables.specs.declared.model.Task.{Task}
use Rattle.tables.specs.declared.model.Link.{Link}
use Rattle.tables.specs.Kinds.{when}
use Rattle.tables.specs.RowKinds.{partition_kind, task_kind, link_kind, partition_widths, task_widths, link_widths, task_in_range, task_fields, count_in, comes_before, rises, no_link, as_picos, as_requests}
use Rattle.tables.specs.Ranges.{Period}
use Rattle.tables.specs.Layout.{paired, TaskFits, LinkFits, NameFits, RisingAfter}
use Rattle.tables.proofs.InRange.{range_kept}
use Rattle.tables.proofs.Unpacking.{Fit, fields, field_at}
use Rattle.tables.proofs.Reread.{Back, Clear}

pub paired_all : {X Y : Type 0} (P : X → Type 0) (Q : Y → Type 0) (S : X × Y → Type 0) → ((x : X) (y : Y) → P x → Q y → S (x, y)) → (xs : List X) (ys : List Y) → AllByRecursion P xs → AllByRecursion Q ys → AllByRecursion S (paired xs ys)
paired_all P Q S f [] ys h g = tt
paired_all P Q S f (x ∷ xs) [] h g = tt
paired_all P Q S f (x ∷ xs) (y ∷ ys) h g = (f x y h.0 g.0, paired_all P Q S f xs ys h.1 g.1)

-- partitions

pub partition_back : (p : Partition) (name : List ℕ) → Period p.period.0 → NameFits name → Back partition_kind (p, name)
partition_back p name period fits =
    let vs = p.period.0 ∷ length name ∷ [] in
    let fit : Fit partition_widths (p.period.0 ∷ length name ∷ []) = (omega (arith, period.1), (omega (arith, fits.short), tt)) in
    let e = fields partition_widths vs 6 fit refl in
    let e0 = field_at partition_widths vs 6 0 44 (omega arith) ∙ ap (λ l. get_or l 0 0) e in
    let e1 = field_at partition_widths vs 6 44 4 (omega arith) ∙ ap (λ l. get_or l 1 0) e in
    record { long = refl; value = λ i. record { period = as_picos (e0 i) }; name = e1; ok = fits.good }

pub partitions_clear : (parts : ℕ) (ps : List Partition) (ns : List (List ℕ)) (before : List (Partition × List ℕ)) → AllByRecursion (λ p. Period p.period.0) ps → Clear partition_kind parts before (paired ps ns)
partitions_clear parts [] ns before h = tt
partitions_clear parts (p ∷ ps) [] before h = tt
partitions_clear parts (p ∷ ps) (n ∷ ns) before h =
    let range = and_from _ _ (le-leb 1000000000 p.period.0 h.0.0) (le-leb p.period.0 10000000000000 h.0.1) in
    ((λ at i. when (not (range i)) (FieldRange at) None), partitions_clear parts ps ns (before ++ (p, n) ∷ []) h.1)

-- tasks

four : {X : Type 0} (xs : List X) → length xs ≡ 4 → (a : X) × (b : X) × (c : X) × (d : X) × (xs ≡ a ∷ b ∷ c ∷ d ∷ [])
four [] e = absurd (omega arith)
four (a ∷ []) e = absurd (omega arith)
four (a ∷ b ∷ []) e = absurd (omega arith)
four (a ∷ b ∷ c ∷ []) e = absurd (omega arith)
four (a ∷ b ∷ c ∷ d ∷ []) e = (a, b, c, d, refl)
four (a ∷ b ∷ c ∷ d ∷ x ∷ xs) e = absurd (omega arith)

module _ (p : ℕ) (period deadline c0 c1 c2 c3 : Picos) (h0 h1 h2 h3 : Requests) where
  abbrev written : Task
  written = record { partition = p; period = period; deadline = deadline; execution = c0 ∷ c1 ∷ c2 ∷ c3 ∷ []; requests = h0 ∷ h1 ∷ h2 ∷ h3 ∷ [] }

  written_back : (name : List ℕ) → p < 16 → task_in_range written ≡ true → NameFits name → Back task_kind (written, name)
  written_back name few range fits =
      let kept = range_kept written range in
      let vs = task_fields written ++ length name ∷ [] in
      let fit : Fit task_widths (task_fields written ++ length name ∷ []) = (
        omega arith,
        (
          omega (arith, kept.0.0.1),
          (
            omega (arith, kept.0.1.1),
            (
              omega (arith, (kept.1 0).0),
              (
                omega (arith, (kept.1 1).0),
                (
                  omega (arith, (kept.1 2).0),
                  (
                    omega (arith, (kept.1 3).0),
                    (
                      omega (arith, (kept.1 0).1),
                      (
                        omega (arith, (kept.1 1).1),
                        (
                          omega (arith, (kept.1 2).1),
                          (
                            omega (arith, (kept.1 3).1),
                            (omega (arith, fits.short), tt),
                          ),
                        ),
                      ),
                    ),
                  ),
                ),
              ),
            ),
          ),
        ),
      ) in
      let e = fields task_widths vs 44 fit refl in
      let at = field_at task_widths vs 44 in
      let e0 = at 0 4 (omega arith) ∙ ap (λ l. get_or l 0 0) e in
      let e1 = at 4 44 (omega arith) ∙ ap (λ l. get_or l 1 0) e in
      let e2 = at 48 44 (omega arith) ∙ ap (λ l. get_or l 2 0) e in
      let e3 = at 92 44 (omega arith) ∙ ap (λ l. get_or l 3 0) e in
      let e4 = at 136 44 (omega arith) ∙ ap (λ l. get_or l 4 0) e in
      let e5 = at 180 44 (omega arith) ∙ ap (λ l. get_or l 5 0) e in
      let e6 = at 224 44 (omega arith) ∙ ap (λ l. get_or l 6 0) e in
      let e7 = at 268 20 (omega arith) ∙ ap (λ l. get_or l 7 0) e in
      let e8 = at 288 20 (omega arith) ∙ ap (λ l. get_or l 8 0) e in
      let e9 = at 308 20 (omega arith) ∙ ap (λ l. get_or l 9 0) e in
      let e10 = at 328 20 (omega arith) ∙ ap (λ l. get_or l 10 0) e in
      let e11 = at 348 4 (omega arith) ∙ ap (λ l. get_or l 11 0) e in
      record {
        long = refl;
        value = λ i. record {
          partition = e0 i;
          period = as_picos (e1 i);
          deadline = as_picos (e2 i);
          execution = as_picos (e3 i) ∷ as_picos (e4 i) ∷ as_picos (e5 i) ∷ as_picos (e6 i) ∷ [];
          requests = as_requests (e7 i) ∷ as_requests (e8 i) ∷ as_requests (e9 i) ∷ as_requests (e10 i) ∷ [];
        };
        name = e11;
        ok = fits.good;
      }

pub task_back : (parts : ℕ) → parts ≤ 16 → (t : Task) (name : List ℕ) → TaskFits parts t → NameFits name → Back task_kind (t, name)
task_back parts few t name fits named =
    let c = four t.execution fits.executions in
    let r = four t.requests fits.counts in
    let x = written t.partition t.period t.deadline c.0 c.1 c.2 c.3 r.0 r.1 r.2 r.3 in
    let is : t ≡ x = λ i. record { partition = t.partition; period = t.period; deadline = t.deadline; execution = c.4 i; requests = r.4 i } in
    subst (λ y. Back task_kind (y, name)) (sym is) (written_back t.partition t.period t.deadline c.0 c.1 c.2 c.3 r.0 r.1 r.2 r.3 name (omega (arith, fits.member)) (subst (λ y. task_in_range y ≡ true) is fits.range) named)

pub tasks_clear : (parts : ℕ) (ts : List Task) (ns : List (List ℕ)) (before : List (Task × List ℕ)) → AllByRecursion (TaskFits parts) ts → ((p : ℕ) → count_in p (map (λ x. x.0) before ++ ts) ≤ 16) → Clear task_kind parts before (paired ts ns)
tasks_clear parts [] ns before h few = tt
tasks_clear parts (t ∷ ts) [] before h few = tt
tasks_clear parts (t ∷ ts) (n ∷ ns) before h few =
    let p = t.partition in
    let front = map (λ x. x.0) before in
    let own_one : Task → ℕ = λ x. cond (eqb x.partition p) 1 0 in
    let own : ◌≡◌ {A = ℕ} (cond (eqb p p) 1 0) 1 = ap (λ (b : Bool). cond b 1 0) (eq-eqb p p refl) in
    let split : count_in p (front ++ t ∷ ts) ≡ count_in p front + (cond (eqb p p) 1 0 + count_in p ts) =
    sum_by-append own_one front (t ∷ ts) ∙ ap (λ n. count_in p front + n) (sum_by-cons own_one t ts) in
    let room : count_in p front < 16 = omega (arith, few p, split, own) in
    let range = h.0.range in
    let member = lt-leb parts p h.0.member in
    let full = lt-leb 16 (count_in p front) room in
    let more : map (λ x. x.0) (before ++ (t, n) ∷ []) ++ ts ≡ front ++ (t ∷ ts) = ap (λ x. x ++ ts) (map_push (λ x. x.0) before (t, n)) ∙ append_assoc front (t ∷ []) ts in (
      (λ at i. when (not (range i)) (FieldRange at) (when (member i) (RowPartition at) (when (full i) (PartitionFull at) None))),
      tasks_clear parts ts ns (before ++ (t, n) ∷ []) h.1 (λ q. subst (λ xs. count_in q xs ≤ 16) (sym more) (few q)),
    )

-- links

pub link_back : (parts : ℕ) → parts ≤ 16 → (l : Link) → LinkFits parts l → Back link_kind (l, [])
link_back parts few l fits =
    let vs = l.first ∷ l.second ∷ [] in
    let fit : Fit link_widths (l.first ∷ l.second ∷ []) = (omega (arith, fits.pair, fits.member), (omega (arith, fits.member), tt)) in
    let e = fields link_widths vs 1 fit refl in
    let e0 = field_at link_widths vs 1 0 4 (omega arith) ∙ ap (λ l. get_or l 0 0) e in
    let e1 = field_at link_widths vs 1 4 4 (omega arith) ∙ ap (λ l. get_or l 1 0) e in
    record { long = refl; value = λ i. record { first = e0 i; second = e1 i }; name = refl; ok = refl }

-- links that may follow those before
abbrev pub Follow : List Link → List Link → Type 0
Follow before [] = Unit {0}
Follow before (l ∷ ls) = (rises before l ≡ true) × RisingAfter l ls

follow_more : (before : List Link) (l : Link) (ls : List Link) → RisingAfter l ls → Follow (before ++ l ∷ []) ls
follow_more before l [] h = tt
follow_more before l (m ∷ ms) h =
    let long = length_push before l in
    let last : get_or (before ++ l ∷ []) (length (before ++ l ∷ []) - 1) no_link ≡ l = get_or_push before l no_link (length (before ++ l ∷ []) - 1) (omega (arith, long)) in
    (or_right _ _ (ap (λ x. comes_before x m) last ∙ h.0), h.1)

pub links_clear : (parts : ℕ) (ls : List Link) (before : List (Link × List ℕ)) → AllByRecursion (LinkFits parts) ls → Follow (map (λ x. x.0) before) ls → Clear link_kind parts before (map (λ l. (l, [])) ls)
links_clear parts [] before h order = tt
links_clear parts (l ∷ ls) before h order =
    let front = map (λ x. x.0) before in
    let below = or_from _ _ (lt-leb parts l.first (omega (arith, h.0.pair, h.0.member))) (lt-leb parts l.second h.0.member) in
    let good = not_from_true _ (and_from _ _ (lt-ltb l.first l.second h.0.pair) order.0) in (
      (λ at i. when (below i) (RowPartition at) (when (good i) (LinkOrder at) None)),
      links_clear parts ls (before ++ (l, []) ∷ []) h.1 (subst (λ xs. Follow xs ls) (sym (map_push (λ x. x.0) before (l, []))) (follow_more front l ls order.1)),
    )
