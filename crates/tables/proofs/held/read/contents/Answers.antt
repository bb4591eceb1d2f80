use Rattle.std.proofs.Common.{◌≡◌, ◌<◌, ◌≤◌, vec_len, sym, ◌∙◌, subst, arith}
use Rattle.std.proofs.ByRecursion.{All-from_get_or}
use Rattle.tables.proofs.Decoding.{walked, accepted, kept, among}
use Rattle.tables.proofs.held.read.contents.Goals as goal

pub invariant_of-result : goal.invariant_of-result
invariant_of-result c =
    let header = c.in_ok-header.ensures in
    let ps = c.in_ok-partitions.ensures in
    let ts = c.in_ok-tasks.ensures in
    let ls = c.in_ok-links.ensures in
    let w = walked c.new-reader.ensures header.file header.cases ps.file ps.cases ts.file ts.cases ls.file ls.cases in
    let k = kept w (All-from_get_or (λ d. d < 256) c.args.file.now 0 (λ i l. omega (arith, c.type_inv.file i))) in
    let np : vec_len c.in_ok-partitions.partitions ≡ c.in_ok-header.header.partitions = c.in_ok-partitions.partitions.ok.0 ∙ k.partitions in
    let nt : vec_len c.in_ok-tasks.tasks ≡ c.in_ok-header.header.tasks = c.in_ok-tasks.tasks.ok.0 ∙ k.tasks in
    let nl : vec_len c.in_ok-links.links ≡ c.in_ok-header.header.links = c.in_ok-links.links.ok.0 ∙ k.links in
    record {
      cored = k.counted.cored;
      few = (subst (λ n. n ≤ 16) (sym np) k.counted.partitions, subst (λ n. n ≤ 64) (sym nt) k.counted.tasks, subst (λ n. n ≤ 120) (sym nl) k.counted.links);
      timed = k.timed;
      member = among _ _ _ np k.each;
      due = λ i l. (k.each i l).due;
      job = λ i l. (k.each i l).job;
    }

pub returns : goal.returns
returns c =
    let header = c.in_ok-header.ensures in
    let ps = c.in_ok-partitions.ensures in
    let ts = c.in_ok-tasks.ensures in
    let ls = c.in_ok-links.ensures in
    let w = walked c.new-reader.ensures header.file header.cases ps.file ps.cases ts.file ts.cases ls.file ls.cases in
    accepted w (All-from_get_or (λ d. d < 256) c.args.file.now 0 (λ i l. omega (arith, c.type_inv.file i))) c.in_ok-end.ensures
