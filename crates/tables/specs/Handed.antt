-- A row as it is handed out: its offset, its fixed part and its name, where it has one. Assumes nothing.
use Rattle.std.specs.Prelude.{ℕ, Bool, true, false, List, [], Some, None, Option}
use Rattle.tables.specs.declared.file_row.FileRow.{FileRow}
use Rattle.tables.specs.declared.file_row.FileRow.TheVariants as row

abbrev pub offset_of : FileRow → ℕ
offset_of (row.Partition at fixed name) = at
offset_of (row.Task at fixed name) = at
offset_of (row.Link at fixed) = at

abbrev pub fixed_of : FileRow → List ℕ
fixed_of (row.Partition at fixed name) = fixed.now
fixed_of (row.Task at fixed name) = fixed.now
fixed_of (row.Link at fixed) = fixed.now

abbrev pub name_in : FileRow → Option (List ℕ)
name_in (row.Partition at fixed name) = Some name.now
name_in (row.Task at fixed name) = Some name.now
name_in (row.Link at fixed) = None

-- the same, with no bytes for none
abbrev pub name_of : FileRow → List ℕ
name_of (row.Partition at fixed name) = name.now
name_of (row.Task at fixed name) = name.now
name_of (row.Link at fixed) = []

abbrev pub is_partition_row : FileRow → Bool
is_partition_row (row.Partition at fixed name) = true
is_partition_row (row.Task at fixed name) = false
is_partition_row (row.Link at fixed) = false

abbrev pub is_task_row : FileRow → Bool
is_task_row (row.Partition at fixed name) = false
is_task_row (row.Task at fixed name) = true
is_task_row (row.Link at fixed) = false

abbrev pub is_link_row : FileRow → Bool
is_link_row (row.Partition at fixed name) = false
is_link_row (row.Task at fixed name) = false
is_link_row (row.Link at fixed) = true
