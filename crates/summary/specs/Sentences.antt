-- What each refusal that the program can meet means, in a sentence. Assumes nothing.
use Rattle.std.specs.Prelude.{ℕ, List, [], codes}
use Rattle.terms.specs.declared.refusal.Refusal.{Refusal}
use Rattle.terms.specs.declared.refusal.Refusal.TheVariants.{Incomplete, FieldRange, BadName, RowPartition, LinkOrder, BytesAfterEnd, PartitionFull, Setting, NoPartition, NoCore, NoCoreAt, NoTask, NotPlaced, AllocationLength, NumberRange, Late, Placed, ShortBuffer}

-- the sentence, and nothing for a refusal that neither a file nor an allocation is met with
abbrev pub sentence : Refusal → List ℕ
sentence (Incomplete at) = codes "The file ends before the header or row at this offset is complete."
sentence (FieldRange at) = codes "A field of the header or row at this offset is out of range."
sentence (BadName at) = codes "The name of the row at this offset is empty or has a forbidden byte."
sentence (RowPartition at) = codes "The row at this offset names a partition that does not exist."
sentence (LinkOrder at) = codes "The link at this offset breaks the order of links."
sentence (BytesAfterEnd at) = codes "Bytes follow the last row from this offset on."
sentence (PartitionFull at) = codes "The task at this offset is the 17th of its partition."
sentence (NoCoreAt index) = codes "The entry of the allocation at this index names no core."
sentence (AllocationLength length) = codes "An allocation of this length is not one entry for each partition."
sentence (Late task) = codes "With this allocation the task of this number has no response time within its limit."
sentence (Setting position) = []
sentence (NoPartition partition) = []
sentence (NoCore core) = []
sentence (NoTask task) = []
sentence (NotPlaced partition) = []
sentence (NumberRange position) = []
sentence (Placed partition) = []
sentence (ShortBuffer needed) = []
