-- The tables that a struct holds, as plain lists. Assumes nothing.
use Rattle.std.specs.Prelude.{◌≤◌, vec_items, vec_capacity}
use Rattle.tables.specs.declared.held.Tables.{Tables}
use Rattle.tables.specs.Layout.{Tabled}

abbrev pub tabled : Tables → Tabled
tabled t = record { cores = t.cores; partitions = vec_items t.partitions; tasks = vec_items t.tasks; links = vec_items t.links }

-- there is room for the greatest number of rows of each kind
abbrev pub Wide : Tables → Type 0
Wide t = (16 ≤ vec_capacity t.partitions) × (64 ≤ vec_capacity t.tasks) × (120 ≤ vec_capacity t.links)
