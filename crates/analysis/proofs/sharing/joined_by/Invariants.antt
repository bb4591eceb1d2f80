use Rattle.std.proofs.Common.{◌≡◌, take}
use Rattle.analysis.specs.Placed.{sharing_of}
use Rattle.analysis.proofs.sharing.joined_by.Given as goal

abbrev pub invariant-loop-link : goal.invariant-loop-link
invariant-loop-link l = l.sharing ≡ sharing_of l.placement.cores (take l.link-index l.links)
