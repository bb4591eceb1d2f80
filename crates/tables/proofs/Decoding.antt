-- What the reader's calls say of `decode`, where one follows another. Assumes nothing.
use Rattle.std.proofs.Common.{◌≡◌, ℕ, ◌<◌, List, [], length, get_or, Ok, Result, sym, ap, ◌∙◌, subst, arith}
use Rattle.std.proofs.lemmas.List.{length-map}
use Rattle.std.proofs.ByRecursion.{All-get_or, All-map}
use Rattle.std.specs.Int.Digits.{AllBelowBase}
use Rattle.std.specs.List.{AllByRecursion}
use Rattle.tables.specs.declared.model.Partition.{Partition}
use Rattle.tables.specs.declared.model.Task.{Task}
use Rattle.tables.specs.declared.model.Link.{Link}
use Rattle.tables.specs.declared.header.Header.{Header}
use Rattle.tables.specs.Kinds.{rows_from, and_then, unless}
use Rattle.tables.specs.RowKinds.{partition_kind, task_kind, link_kind}
use Rattle.tables.specs.Ranges.{EachTimed, EachMember, Period, no_partition, no_task}
use Rattle.tables.specs.Contents.{Book, decode, decode_after, header_of, head_at}
use Rattle.tables.specs.Answers.{Headed, Held, Ended}
use Rattle.tables.specs.Reading.{Accepted}
use Rattle.tables.proofs.InRange.{TaskKept, Counts, counts}
use Rattle.tables.proofs.Laid.{laid_out, head_sound, partitions_ran, tasks_ran, links_ran}

pub then_ok : {X Y : Type 0} {q : Result X (ℕ × ℕ)} (f : X → Result Y (ℕ × ℕ)) {x : X} → q ≡ Ok x → and_then q f ≡ f x
then_ok f e = ap (λ q. and_then q f) e

-- the header and all rows of the file were read, by a reader that then has it as `seen` and stands at `to`
pub record Walked (file seen : List ℕ) (h : Header) (xs : List Partition) (ys : List Task) (zs : List Link) (to : ℕ) : Type 0 where
  pub past_partitions : ℕ
  pub past_tasks : ℕ
  pub head : Headed file 0 h 3
  pub partitions : Held partition_kind file h.partitions h.partitions 3 xs past_partitions
  pub tasks : Held task_kind file h.partitions h.tasks past_partitions ys past_tasks
  pub links : Held link_kind file h.partitions h.links past_tasks zs to
  pub same : seen ≡ file

-- what the calls of one reader, from the start of the file on, say together
pub walked : {file a b c d e : List ℕ} {o p q r t : ℕ} {h : Header} {xs : List Partition} {ys : List Task} {zs : List Link} → (a ≡ file) × (o ≡ 0) → b ≡ a → Headed a o h p → c ≡ b → Held partition_kind b h.partitions h.partitions p xs q → d ≡ c → Held task_kind c h.partitions h.tasks q ys r → e ≡ d → Held link_kind d h.partitions h.links r zs t → Walked file e h xs ys zs t
walked {file} {a} {b} {c} {d} {e} {o} {p} {q} {r} {t} {h} {xs} {ys} {zs} new ba head cb parts dc tasks ed links =
    let in_b = ba ∙ new.0 in
    let in_c = cb ∙ in_b in
    let in_d = dc ∙ in_c in
    let next = head.next in
    let past : p ≡ 3 = omega (arith, new.1) in
    record {
      past_partitions = q;
      past_tasks = r;
      head = subst (λ (z : List ℕ × ℕ × ℕ). Headed z.0 z.1 h z.2) (λ i. (new.0 i, new.1 i, past i)) head;
      partitions = subst (λ (z : List ℕ × ℕ). Held partition_kind z.0 h.partitions h.partitions z.1 xs q) (λ i. (in_b i, past i)) parts;
      tasks = subst (λ z. Held task_kind z h.partitions h.tasks q ys r) in_c tasks;
      links = subst (λ z. Held link_kind z h.partitions h.links r zs t) in_d links;
      same = ed ∙ in_d;
    }

pub among : (m n : ℕ) (ys : List Task) → m ≡ n → ((k : ℕ) → k < length ys → TaskKept n (get_or ys k no_task)) → EachMember m ys
among m n ys e each k lt = subst (λ x. (get_or ys k no_task).partition < x) (sym e) (each k lt).member

module _ {file seen : List ℕ} {h : Header} {xs : List Partition} {ys : List Task} {zs : List Link} {to : ℕ} (w : Walked file seen h xs ys zs to) where
  abbrev book : Book
  book = record { cores = h.cores; partitions = w.partitions.entries; tasks = w.tasks.entries; links = w.links.entries }

  decodes : Ended file to → decode file ≡ Ok book
  decodes end =
      ap (λ q. unless q (decode_after file (header_of (head_at file 0)))) w.head.sound ∙ ap (decode_after file) (sym w.head.is)
      ∙ then_ok _ w.partitions.are ∙ then_ok _ w.tasks.are ∙ then_ok _ w.links.are ∙ ap (λ q. unless q (Ok book)) end

  pub accepted : AllBelowBase 256 file → Ended seen to → Accepted file (record { cores = h.cores; partitions = xs; tasks = ys; links = zs })
  accepted under end =
      let is = decodes (subst (λ s. Ended s to) w.same end) in
      record {
        book = book;
        is = is;
        whole = laid_out file book under is;
        tables = λ i. record { cores = h.cores; partitions = w.partitions.hold i; tasks = w.tasks.hold i; links = w.links.hold i };
      }

  -- what is in range then
  pub record Kept : Type 0 where
    pub counted : Counts h
    pub partitions : length xs ≡ h.partitions
    pub tasks : length ys ≡ h.tasks
    pub links : length zs ≡ h.links
    pub timed : EachTimed xs
    pub each : (k : ℕ) → k < length ys → TaskKept h.partitions (get_or ys k no_task)

  pub kept : AllBelowBase 256 file → Kept
  kept under =
      let sound = head_sound file w.head.sound in
      let is = w.head.is in
      let ps = w.partitions in
      let ts = w.tasks in
      let ls = w.links in
      let rp = partitions_ran file under sound w.past_partitions ps.entries (subst (λ g. rows_from partition_kind file g.partitions g.partitions 3 [] ≡ Ok (w.past_partitions, ps.entries)) is ps.are) in
      let rt = tasks_ran file under sound w.past_partitions w.past_tasks ts.entries (subst (λ g. rows_from task_kind file g.partitions g.tasks w.past_partitions [] ≡ Ok (w.past_tasks, ts.entries)) is ts.are) rp.inside in
      let rl = links_ran file under sound w.past_tasks to ls.entries (subst (λ g. rows_from link_kind file g.partitions g.links w.past_tasks [] ≡ Ok (to, ls.entries)) is ls.are) rt.inside in
      let timed : AllByRecursion (λ p. Period p.period.0) xs = subst (AllByRecursion (λ p. Period p.period.0)) (sym ps.hold) (All-map (λ p. Period p.period.0) (λ e. e.0) ps.entries rp.all) in
      let each : AllByRecursion (TaskKept h.partitions) ys = subst (λ g. AllByRecursion (TaskKept g.partitions) ys) (sym is) (subst (AllByRecursion (TaskKept (header_of (head_at file 0)).partitions)) (sym ts.hold) (All-map (TaskKept (header_of (head_at file 0)).partitions) (λ e. e.0) ts.entries rt.all)) in
      record {
        counted = subst Counts (sym is) (counts (header_of (head_at file 0)) sound.range);
        partitions = ap length ps.hold ∙ length-map ps.entries (λ e. e.0) ∙ rp.count ∙ ap (λ g. g.partitions) (sym is);
        tasks = ap length ts.hold ∙ length-map ts.entries (λ e. e.0) ∙ rt.count ∙ ap (λ g. g.tasks) (sym is);
        links = ap length ls.hold ∙ length-map ls.entries (λ e. e.0) ∙ rl.count ∙ ap (λ g. g.links) (sym is);
        timed = λ k lt. All-get_or (λ p. Period p.period.0) xs k no_partition lt timed;
        each = λ k lt. All-get_or (TaskKept h.partitions) ys k no_task lt each;
      }
