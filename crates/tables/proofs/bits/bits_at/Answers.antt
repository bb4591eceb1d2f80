use Rattle.std.proofs.Common.{◌≡◌, ◌+◌, ◌-◌, ◌*◌, ◌/◌, ◌%◌, ◌^◌, ap, ◌∙◌, arith}
use Rattle.tables.specs.Packed.{reach}
use Rattle.tables.proofs.Packing.{part_is}
use Rattle.tables.proofs.bits.bits_at.Goals as goal

pub returns : goal.returns
returns c =
    let end : c.div_ceil-end.result ≡ reach (c.args.from + c.args.width) = omega arith in
    let past = 8 * c.div_ceil-end.result - (c.args.from + c.args.width) in
    c.cut.ensures ∙ ap (λ x. x / 2 ^ past % 2 ^ c.args.width) c.number_of-value.ensures ∙ rw end (part_is c.args.bytes.now c.args.from c.args.width c.requires.0)
