use Rattle.std.proofs.Common.{length, take, ap, arith}
use Rattle.report.specs.Text.{lines}
use Rattle.report.proofs.Puts.{room_second}
use Rattle.report.proofs.Rows.{put_row, row_room}
use Rattle.report.proofs.listing.TimesText.put.Goals as goal

pub put-at-requires : goal.put-at-requires
put-at-requires c =
    let ts = c.as_slice-times.result.now in
    let room = row_room ts c.loop-k.k _ _ c.loop-k-test.true c.row.ensures c.args.out.now (omega (arith, c.requires, ap (λ xs. length (lines 0 xs)) c.as_slice-times.ensures)) in
    room_second (lines 0 (take c.loop-k.k ts)) _ c.args.out.now c.loop-k.out c.loop-k.at c.loop-k.invariant room

pub loop-k-preserved : goal.loop-k-preserved
loop-k-preserved c =
    put_row c.as_slice-times.result.now c.loop-k.k _ _ c.loop-k-test.true c.row.ensures c.args.out.now c.loop-k.out c.put-at.new.out c.loop-k.at c.put-at.result
    c.loop-k.invariant c.put-at.ensures
