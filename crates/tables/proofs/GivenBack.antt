-- The layout of tables and names in range is accepted, and gives them back. Assumes nothing.
use Rattle.std.proofs.Common.{◌≡◌, ℕ, suc, ◌+◌, ◌≤◌, true, List, [], ◌∷◌, ◌++◌, map, length, get_or, None, Ok, sym, refl, ap, ◌∙◌, append_assoc, append-nil, arith, length-append}
use Rattle.std.specs.List.{flat_map, AllByRecursion}
use Rattle.std.proofs.lemmas.List.{length-map}
use Rattle.std.proofs.lemmas.Bool.{le-leb, le-ltb, eq-eqb, and_from, or_from, not_from_true}
use Rattle.terms.specs.declared.refusal.Refusal.TheVariants.{Incomplete, FieldRange, BytesAfterEnd}
use Rattle.tables.specs.declared.model.Partition.{Partition}
use Rattle.tables.specs.declared.model.Task.{Task}
use Rattle.tables.specs.declared.model.Link.{Link}
use Rattle.tables.specs.declared.header.Header.{Header}
use Rattle.tables.specs.Packed.{bits_at, pack, octets}
use Rattle.tables.specs.Kinds.{rows_from, row_bytes, unless, when}
use Rattle.tables.specs.RowKinds.{partition_kind, task_kind, link_kind}
use Rattle.tables.specs.Contents.{Book, decode, decode_after, header_of, header_in_range, header_fault, head_at, end_fault}
use Rattle.tables.specs.Layout.{Tabled, Named, InRange, LinkFits, layout, paired, header_widths, Rising}
use Rattle.tables.specs.Reading.{GivenBack}
use Rattle.tables.proofs.Unpacking.{Fit, fields, field_at}
use Rattle.tables.proofs.Reread.{Back, reread}
use Rattle.tables.proofs.RowsBack.{paired_all, partition_back, task_back, link_back, partitions_clear, tasks_clear, links_clear, Follow}
use Rattle.tables.proofs.Decoding.{then_ok}

paired_long : {X Y : Type 0} (xs : List X) (ys : List Y) → length ys ≡ length xs → length (paired xs ys) ≡ length xs
paired_long [] ys e = refl
paired_long (x ∷ xs) [] e = absurd (omega arith)
paired_long (x ∷ xs) (y ∷ ys) e = ap suc (paired_long xs ys (omega arith))

paired_first : {X Y : Type 0} (xs : List X) (ys : List Y) → length ys ≡ length xs → map (λ e. e.0) (paired xs ys) ≡ xs
paired_first [] ys e = refl
paired_first (x ∷ xs) [] e = absurd (omega arith)
paired_first (x ∷ xs) (y ∷ ys) e = ap (λ zs. x ∷ zs) (paired_first xs ys (omega arith))

paired_second : {X Y : Type 0} (xs : List X) (ys : List Y) → length ys ≡ length xs → map (λ e. e.1) (paired xs ys) ≡ ys
paired_second [] [] e = refl
paired_second [] (y ∷ ys) e = absurd (omega arith)
paired_second (x ∷ xs) [] e = absurd (omega arith)
paired_second (x ∷ xs) (y ∷ ys) e = ap (λ zs. y ∷ zs) (paired_second xs ys (omega arith))

abbrev unnamed : List Link → List (Link × List ℕ)
unnamed ls = map (λ l. (l, [])) ls

unnamed_bytes : (ls : List Link) → flat_map (λ l. link_kind.fixed l 0) ls ≡ flat_map (row_bytes link_kind) (unnamed ls)
unnamed_bytes [] = refl
unnamed_bytes (l ∷ ls) = λ i. sym (append-nil (link_kind.fixed l 0)) i ++ unnamed_bytes ls i

unnamed_first : (ls : List Link) → map (λ e. e.0) (unnamed ls) ≡ ls
unnamed_first [] = refl
unnamed_first (l ∷ ls) = ap (λ zs. l ∷ zs) (unnamed_first ls)

unnamed_back : (parts : ℕ) → parts ≤ 16 → (ls : List Link) → AllByRecursion (LinkFits parts) ls → AllByRecursion (Back link_kind) (unnamed ls)
unnamed_back parts few [] h = tt
unnamed_back parts few (l ∷ ls) h = (link_back parts few l h.0, unnamed_back parts few ls h.1)

start : (ls : List Link) → Rising ls → Follow [] ls
start [] h = tt
start (l ∷ ls) h = (refl, h)

module _ (t : Tabled) (n : Named) (ok : InRange t n) where
  abbrev counts : List ℕ
  counts = t.cores ∷ length t.partitions ∷ length t.tasks ∷ length t.links ∷ 0 ∷ []

  abbrev head : List ℕ
  head = octets 3 (pack header_widths counts)

  abbrev ps : List (Partition × List ℕ)
  ps = paired t.partitions n.partitions

  abbrev ts : List (Task × List ℕ)
  ts = paired t.tasks n.tasks

  abbrev ls : List (Link × List ℕ)
  ls = unnamed t.links

  abbrev jp : List ℕ
  jp = flat_map (row_bytes partition_kind) ps

  abbrev jt : List ℕ
  jt = flat_map (row_bytes task_kind) ts

  abbrev jl : List ℕ
  jl = flat_map (row_bytes link_kind) ls

  abbrev file : List ℕ
  file = layout t n

  is : file ≡ head ++ (jp ++ (jt ++ jl))
  is = ap (λ x. head ++ (jp ++ (jt ++ x))) (unnamed_bytes t.links)

  abbrev hh : Header
  hh = record { cores = t.cores; partitions = length t.partitions; tasks = length t.tasks; links = length t.links }

  fit : Fit header_widths counts
  fit = (omega (arith, ok.cores.1), (omega (arith, ok.few.0), (omega (arith, ok.few.1), (omega (arith, ok.few.2), (omega arith, tt)))))

  three : length head ≡ 3
  three = refl

  there : head_at file 0 ≡ head
  there = refl

  fields_are : (header_of head ≡ hh) × (bits_at 22 2 head ≡ 0)
  fields_are =
      let e = fields header_widths counts 3 fit refl in
      let at = field_at header_widths counts 3 in
      let e0 = at 0 3 (omega arith) ∙ ap (λ l. get_or l 0 0) e in
      let e1 = at 3 5 (omega arith) ∙ ap (λ l. get_or l 1 0) e in
      let e2 = at 8 7 (omega arith) ∙ ap (λ l. get_or l 2 0) e in
      let e3 = at 15 7 (omega arith) ∙ ap (λ l. get_or l 3 0) e in
      let e4 = at 22 2 (omega arith) ∙ ap (λ l. get_or l 4 0) e in
      ((λ i. record { cores = e0 i; partitions = e1 i; tasks = e2 i; links = e3 i }), e4)

  header_is : header_of (head_at file 0) ≡ hh
  header_is = ap header_of there ∙ fields_are.0

  in_range : header_in_range hh ≡ true
  in_range = and_from _ _ (le-leb _ _ ok.cores.0) (and_from _ _ (le-leb _ _ ok.cores.1) (and_from _ _ (le-leb _ _ ok.few.0) (and_from _ _ (le-leb _ _ ok.few.1) (le-leb _ _ ok.few.2))))

  clear : header_fault file 0 ≡ None
  clear =
      let long : 0 + 3 ≤ length file = omega (arith, ap length is, length-append head (jp ++ (jt ++ jl)), three) in
      let a = le-ltb (length file) (0 + 3) long in
      let b = not_from_true _ (ap header_in_range header_is ∙ in_range) in
      let c = not_from_true _ (eq-eqb _ _ (ap (bits_at 22 2) there ∙ fields_are.1)) in
      let d = or_from _ _ b c in
      λ i. when (a i) (Incomplete 0) (when (d i) (FieldRange 0) None)

  parts_few : length t.partitions ≤ 16
  parts_few = ok.few.0

  run_partitions : rows_from partition_kind file (length t.partitions) (length t.partitions) 3 [] ≡ Ok (length (head ++ jp), ps)
  run_partitions =
      let back = paired_all _ _ (Back partition_kind) partition_back t.partitions n.partitions ok.partitions ok.names.0 in
      let r = reread partition_kind (length t.partitions) file ps head (jt ++ jl) [] is back (partitions_clear (length t.partitions) t.partitions n.partitions [] ok.partitions) in
      ap (λ m. rows_from partition_kind file (length t.partitions) m 3 []) (sym (paired_long t.partitions n.partitions ok.each_named.0)) ∙ r

  run_tasks : rows_from task_kind file (length t.partitions) (length t.tasks) (length (head ++ jp)) [] ≡ Ok (length ((head ++ jp) ++ jt), ts)
  run_tasks =
      let back = paired_all _ _ (Back task_kind) (task_back (length t.partitions) parts_few) t.tasks n.tasks ok.tasks ok.names.1 in
      let r = reread task_kind (length t.partitions) file ts (head ++ jp) jl [] (is ∙ sym (append_assoc head jp (jt ++ jl))) back (tasks_clear _ t.tasks n.tasks [] ok.tasks ok.crowd) in
      ap (λ m. rows_from task_kind file (length t.partitions) m (length (head ++ jp)) []) (sym (paired_long t.tasks n.tasks ok.each_named.1)) ∙ r

  end_is : file ≡ ((head ++ jp) ++ jt) ++ jl
  end_is = is ∙ sym (append_assoc head jp (jt ++ jl)) ∙ sym (append_assoc (head ++ jp) jt jl)

  run_links : rows_from link_kind file (length t.partitions) (length t.links) (length ((head ++ jp) ++ jt)) [] ≡ Ok (length (((head ++ jp) ++ jt) ++ jl), ls)
  run_links =
      let back = unnamed_back (length t.partitions) parts_few t.links ok.links in
      let r = reread link_kind (length t.partitions) file ls ((head ++ jp) ++ jt) [] [] (end_is ∙ ap (λ x. ((head ++ jp) ++ jt) ++ x) (sym (append-nil jl))) back (links_clear _ t.links [] ok.links (start t.links ok.order)) in
      ap (λ m. rows_from link_kind file (length t.partitions) m (length ((head ++ jp) ++ jt)) []) (sym (length-map t.links (λ l. (l, [])))) ∙ r

  at_end : end_fault file (length (((head ++ jp) ++ jt) ++ jl)) ≡ None
  at_end =
      let a = le-ltb (length (((head ++ jp) ++ jt) ++ jl)) (length file) (omega (arith, ap length end_is)) in
      λ i. when (a i) (BytesAfterEnd (length (((head ++ jp) ++ jt) ++ jl))) None

  abbrev book : Book
  book = record { cores = t.cores; partitions = ps; tasks = ts; links = ls }

  decoded : decode file ≡ Ok book
  decoded =
      (λ i. unless (clear i) (decode_after file (header_is i)))
      ∙ then_ok _ run_partitions ∙ then_ok _ run_tasks ∙ then_ok _ run_links ∙ ap (λ q. unless q (Ok book)) at_end

pub given_back : GivenBack
given_back t n ok = (
  book t n ok,
  decoded t n ok,
  (λ i. record { cores = t.cores; partitions = paired_first t.partitions n.partitions ok.each_named.0 i; tasks = paired_first t.tasks n.tasks ok.each_named.1 i; links = unnamed_first t.links i }),
  (λ i. record { partitions = paired_second t.partitions n.partitions ok.each_named.0 i; tasks = paired_second t.tasks n.tasks ok.each_named.1 i }),
)
