-- The number of each refusal, and what it tells. Assumes nothing.
use Rattle.std.specs.Prelude.{ℕ, List, ◌++◌, decimal, codes}
use Rattle.terms.specs.declared.refusal.Refusal.{Refusal}
use Rattle.terms.specs.declared.refusal.Refusal.TheVariants.{Incomplete, FieldRange, BadName, RowPartition, LinkOrder, BytesAfterEnd, PartitionFull, Setting, NoPartition, NoCore, NoCoreAt, NoTask, NotPlaced, AllocationLength, NumberRange, Late, Placed, ShortBuffer}

-- a refusal's number, and what it tells
abbrev pub told : Refusal → ℕ × ℕ
told (Incomplete at) = (1, at)
told (FieldRange at) = (2, at)
told (BadName at) = (3, at)
told (RowPartition at) = (4, at)
told (LinkOrder at) = (5, at)
told (BytesAfterEnd at) = (6, at)
told (PartitionFull at) = (7, at)
told (Setting position) = (8, position)
told (NoPartition partition) = (9, partition)
told (NoCore core) = (10, core)
told (NoCoreAt index) = (10, index)
told (NoTask task) = (11, task)
told (NotPlaced partition) = (12, partition)
told (AllocationLength length) = (13, length)
told (NumberRange position) = (14, position)
told (Late task) = (15, task)
told (Placed partition) = (16, partition)
told (ShortBuffer needed) = (17, needed)

-- a refusal as it is printed
abbrev pub refused : Refusal → List ℕ
refused e = codes "refused " ++ decimal (told e).0 ++ codes " at " ++ decimal (told e).1
