use Rattle.report.proofs.Pairs.{put_two}
use Rattle.report.proofs.lines.LineText.put.Goals as goal

pub returns : goal.returns
returns c =
    let x = c.args.self.now in
    put_two x.first.label.now x.first.n x.second.label.now x.second.n c.args.out.now c.put-first.new.out c.put.new.out
    c.put-first.result c.put.result c.requires c.put-first.ensures c.put.ensures
