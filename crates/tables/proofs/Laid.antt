-- An accepted file is the layout of its tables and names. Assumes nothing.
use Rattle.std.proofs.Common.{◌≡◌, ℕ, ◌+◌, ◌-◌, ◌*◌, ◌/◌, ◌%◌, ◌^◌, ◌<◌, ◌≤◌, true, List, [], ◌∷◌, ◌++◌, map, length, take, None, Ok, sym, refl, ap, ◌∙◌, subst, append_assoc, append-nil, arith, length-take}
use Rattle.std.specs.List.{flat_map, AllByRecursion}
use Rattle.std.specs.Int.Digits.{AllBelowBase, number_from_digits}
use Rattle.std.proofs.lemmas.List.{take_all, length-map}
use Rattle.std.proofs.ByRecursion.{All-take}
use Rattle.std.proofs.lemmas.Bool.{ltb-false, eqb-true, or_parts, not-false}
use Rattle.tables.specs.declared.model.Partition.{Partition}
use Rattle.tables.specs.declared.model.Task.{Task}
use Rattle.tables.specs.declared.model.Link.{Link}
use Rattle.tables.specs.declared.header.Header.{Header}
use Rattle.tables.specs.Packed.{bits_at, pack, unpack, octets, bits}
use Rattle.tables.specs.Kinds.{rows_from, row_bytes}
use Rattle.tables.specs.RowKinds.{partition_kind, task_kind, link_kind, partition_widths, task_widths, link_widths}
use Rattle.tables.specs.Ranges.{Period}
use Rattle.tables.specs.Contents.{Book, decode_after, header_of, header_in_range, header_fault, head_at}
use Rattle.tables.specs.Layout.{layout, tables_of, names_of, paired, header_widths}
use Rattle.tables.specs.Reading.{LaidOut, OneFile}
use Rattle.tables.proofs.Packing.{field_is, whole_row}
use Rattle.tables.proofs.Walk.{none_when}
use Rattle.tables.proofs.Runs.{Faithful, Ran, ran, ok_inj, ok_unless, ok_then}
use Rattle.tables.proofs.InRange.{TaskKept, partition_kept, task_kept}

-- the bits at o of n bytes
at : (b : List ℕ) (n o w : ℕ) → AllBelowBase 256 b → length b ≡ n → o + w ≤ 8 * n → bits_at o w b ≡ number_from_digits 256 b / 2 ^ (8 * n - (o + w)) % 2 ^ w
at b n o w under long in' = field_is b o w under (omega arith) ∙ ap (λ x. number_from_digits 256 b / 2 ^ (8 * x - (o + w)) % 2 ^ w) long

-- n bytes are those of their fields
again : (ws b : List ℕ) (n : ℕ) → AllBelowBase 256 b → length b ≡ n → bits ws ≡ 8 * n → (vs : List ℕ) → vs ≡ unpack ws (number_from_digits 256 b) → octets n (pack ws vs) ≡ b
again ws b n under long e vs h =
    ap (λ x. octets x (pack ws vs)) (sym long) ∙ ap (λ x. octets (length b) (pack ws x)) h ∙ whole_row ws b under (e ∙ ap (λ x. 8 * x) (sym long))

pub partition_faithful : Faithful partition_kind
partition_faithful b under long =
    let e0 = at b 6 0 44 under long (omega arith) in
    let e1 = at b 6 44 4 under long (omega arith) in
    again partition_widths b 6 under long refl _ (λ i. e0 i ∷ e1 i ∷ [])

pub link_faithful : Faithful link_kind
link_faithful b under long =
    let e0 = at b 1 0 4 under long (omega arith) in
    let e1 = at b 1 4 4 under long (omega arith) in
    again link_widths b 1 under long refl _ (λ i. e0 i ∷ e1 i ∷ [])

pub task_faithful : Faithful task_kind
task_faithful b under long =
    let e0 = at b 44 0 4 under long (omega arith) in
    let e1 = at b 44 4 44 under long (omega arith) in
    let e2 = at b 44 48 44 under long (omega arith) in
    let e3 = at b 44 92 44 under long (omega arith) in
    let e4 = at b 44 136 44 under long (omega arith) in
    let e5 = at b 44 180 44 under long (omega arith) in
    let e6 = at b 44 224 44 under long (omega arith) in
    let e7 = at b 44 268 20 under long (omega arith) in
    let e8 = at b 44 288 20 under long (omega arith) in
    let e9 = at b 44 308 20 under long (omega arith) in
    let e10 = at b 44 328 20 under long (omega arith) in
    let e11 = at b 44 348 4 under long (omega arith) in
    again task_widths b 44 under long refl _ (λ i. e0 i ∷ e1 i ∷ e2 i ∷ e3 i ∷ e4 i ∷ e5 i ∷ e6 i ∷ e7 i ∷ e8 i ∷ e9 i ∷ e10 i ∷ e11 i ∷ [])

paired_maps : {X Y : Type 0} (es : List (X × Y)) → paired (map (λ e. e.0) es) (map (λ e. e.1) es) ≡ es
paired_maps [] = refl
paired_maps (e ∷ es) = ap (λ xs. e ∷ xs) (paired_maps es)

-- links have no names
unnamed : (es : List (Link × List ℕ)) → AllByRecursion (λ e. e.1 ≡ []) es → flat_map (row_bytes link_kind) es ≡ flat_map (λ l. link_kind.fixed l 0) (map (λ e. e.0) es)
unnamed [] h = refl
unnamed (e ∷ es) h = λ i. (ap (λ x. link_kind.fixed e.0 0 ++ x) h.0 ∙ append-nil (link_kind.fixed e.0 0)) i ++ unnamed es h.1 i

-- what is known where a header is sound
pub record HeadSound (file : List ℕ) : Type 0 where
  pub long : 3 ≤ length file
  pub range : header_in_range (header_of (head_at file 0)) ≡ true
  pub spare : bits_at 22 2 (head_at file 0) ≡ 0

pub head_sound : (file : List ℕ) → header_fault file 0 ≡ None → HeadSound file
head_sound file e =
    let a = none_when _ _ _ e in
    let b = or_parts _ _ (none_when _ _ _ a.1).0 in
    record { long = omega (arith, ltb-false _ _ a.0); range = not-false _ b.0; spare = eqb-true _ _ (not-false _ b.1) }

module _ (file : List ℕ) (under : AllBelowBase 256 file) (ok : HeadSound file) where
  abbrev h : Header
  h = header_of (head_at file 0)

  header_again : (ps ts ls : ℕ) → ps ≡ h.partitions → ts ≡ h.tasks → ls ≡ h.links → octets 3 (pack header_widths (h.cores ∷ ps ∷ ts ∷ ls ∷ 0 ∷ [])) ≡ take 3 file
  header_again ps ts ls ep et el =
      let b = take 3 file in
      let u = All-take (λ d. d < 256) 3 file under in
      let three : length b ≡ 3 = simp length-take (omega (arith, ok.long)) in
      let e0 = at b 3 0 3 u three (omega arith) in
      let e1 = ep ∙ at b 3 3 5 u three (omega arith) in
      let e2 = et ∙ at b 3 8 7 u three (omega arith) in
      let e3 = el ∙ at b 3 15 7 u three (omega arith) in
      let e4 = sym ok.spare ∙ at b 3 22 2 u three (omega arith) in
      again header_widths b 3 u three refl _ (λ i. e0 i ∷ e1 i ∷ e2 i ∷ e3 i ∷ e4 i ∷ [])

  pub partitions_ran : (o : ℕ) (ps : List (Partition × List ℕ)) → rows_from partition_kind file h.partitions h.partitions 3 [] ≡ Ok (o, ps) → Ran partition_kind file h.partitions (λ e. Period e.0.period.0) (λ o before s. partition_kept o h.partitions before _ s.holds) under partition_faithful 3 h.partitions o ps
  partitions_ran o ps e = ran _ _ _ _ _ _ _ h.partitions 3 o ps e ok.long

  pub tasks_ran : (from to : ℕ) (ts : List (Task × List ℕ)) → rows_from task_kind file h.partitions h.tasks from [] ≡ Ok (to, ts) → from ≤ length file → Ran task_kind file h.partitions (λ e. TaskKept h.partitions e.0) (λ o before s. task_kept o h.partitions before _ s.holds) under task_faithful from h.tasks to ts
  tasks_ran from to ts e le = ran _ _ _ _ _ _ _ h.tasks from to ts e le

  pub links_ran : (from to : ℕ) (ls : List (Link × List ℕ)) → rows_from link_kind file h.partitions h.links from [] ≡ Ok (to, ls) → from ≤ length file → Ran link_kind file h.partitions (λ e. e.1 ≡ []) (λ o before s. refl) under link_faithful from h.links to ls
  links_ran from to ls e le = ran _ _ _ _ _ _ _ h.links from to ls e le

  book_laid : (o₁ : ℕ) (ps : List (Partition × List ℕ)) (o₂ : ℕ) (ts : List (Task × List ℕ)) (o₃ : ℕ) (ls : List (Link × List ℕ)) → rows_from partition_kind file h.partitions h.partitions 3 [] ≡ Ok (o₁, ps) → rows_from task_kind file h.partitions h.tasks o₁ [] ≡ Ok (o₂, ts) → rows_from link_kind file h.partitions h.links o₂ [] ≡ Ok (o₃, ls) → length file ≤ o₃ → (b : Book) → b ≡ record { cores = h.cores; partitions = ps; tasks = ts; links = ls } → file ≡ layout (tables_of b) (names_of b)
  book_laid o₁ ps o₂ ts o₃ ls ep et el end b is =
      let rp = partitions_ran o₁ ps ep in
      let rt = tasks_ran o₁ o₂ ts et rp.inside in
      let rl = links_ran o₂ o₃ ls el rt.inside in
      let book : Book = record { cores = h.cores; partitions = ps; tasks = ts; links = ls } in
      let jp = flat_map (row_bytes partition_kind) ps in
      let jt = flat_map (row_bytes task_kind) ts in
      let jl = flat_map (row_bytes link_kind) ls in
      let spelled : file ≡ take 3 file ++ (jp ++ (jt ++ jl)) =
      sym (take_all o₃ file end) ∙ rl.text ∙ ap (λ x. x ++ jl) (rt.text ∙ ap (λ x. x ++ jt) rp.text) ∙ append_assoc (take 3 file ++ jp) jt jl ∙ append_assoc (take 3 file) jp (jt ++ jl) in
      let head = sym (header_again (length (map (λ e. e.0) ps)) (length (map (λ e. e.0) ts)) (length (map (λ e. e.0) ls)) (length-map ps (λ e. e.0) ∙ rp.count) (length-map ts (λ e. e.0) ∙ rt.count) (length-map ls (λ e. e.0) ∙ rl.count)) in
      let parts = sym (ap (flat_map (row_bytes partition_kind)) (paired_maps ps)) in
      let tasks = sym (ap (flat_map (row_bytes task_kind)) (paired_maps ts)) in
      let links = unnamed ls rl.all in
      let whole : file ≡ layout (tables_of book) (names_of book) = spelled ∙ (λ i. head i ++ (parts i ++ (tasks i ++ links i))) in
      subst (λ x. file ≡ layout (tables_of x) (names_of x)) (sym is) whole

pub laid_out : LaidOut
laid_out file b under e =
    let p = ok_unless (header_fault file 0) (decode_after file (header_of (head_at file 0))) b e in
    let ps = ok_then _ _ b p.1 in
    let ts = ok_then _ _ b ps.2 in
    let ls = ok_then _ _ b ts.2 in
    let last = ok_unless _ _ b ls.2 in
    book_laid file under (head_sound file p.0) ps.0.0 ps.0.1 ts.0.0 ts.0.1 ls.0.0 ls.0.1 ps.1 ts.1 ls.1 (ltb-false _ _ (none_when _ _ _ last.0).0) b (sym (ok_inj last.1))

pub one_file : OneFile
one_file f g b c uf ug ef eg tables names = laid_out f b uf ef ∙ (λ i. layout (tables i) (names i)) ∙ sym (laid_out g c ug eg)
