use Rattle.std.proofs.Common.{refl}
use Rattle.tables.proofs.Laid.{laid_out, one_file}
use Rattle.tables.proofs.GivenBack.{given_back}
use Rattle.tables.proofs.held.Tables.read.Goals as goal

pub returns : goal.returns
returns c = record { answer = c.contents.ensures; laid = laid_out; alone = one_file; back = given_back; small = (refl, refl, refl) }
