-- What a history tells of an array, whether a reshape stands in it or not.
use Rattle.std.specs.Prelude.{ℕ, ◌++◌, ◌||◌, Bool, List, length}
use Rattle.std.specs.List.{list_any}
use Rattle.array_call_specs.specs.history_the_Entry.{Entry}
use Rattle.array_call_specs.specs.history_World.{World, opening_list}
use Rattle.array_call_specs.specs.history_Flat.{length_of, values_of}
use Rattle.array_call_specs.specs.history_Losses.{loses, is_gone_after, is_unsynced, unsettles}
use Rattle.array_call_specs.specs.history_OneShape.{is_unsettled}
use Rattle.array_call_specs.specs.crash_views_Views.{Ledger}

-- The whole history: how long the list is and the values of each of its sectors, the roles that are gone, and whether a write may be unsettled; with
-- it, what a history doesn't tell: whether a reshape may be active, and the device numbers that slots may bear.
abbrev pub told_now : World → (ℕ → ℕ → Bool) → Bool → List Entry → Ledger
told_now world carried reshaping entries = record {
  size = length_of (length (opening_list world)) entries;
  values = values_of (opening_list world) entries;
  gone = is_gone_after world entries;
  unclean = is_unsynced world entries || is_unsettled entries;
  reshaping = reshaping;
  carried = carried;
}

-- The history before a call that runs and the first of its entries, which may have happened by now: each role that one of them takes counts as gone,
-- and each write in them as unsettled; what they give back or settle doesn't count. Its world is that in which they are made.
abbrev pub told_by : World → (ℕ → ℕ → Bool) → Bool → List Entry → List Entry → Ledger
told_by world carried reshaping entries more = record {
  size = length_of (length (opening_list world)) (entries ++ more);
  values = values_of (opening_list world) (entries ++ more);
  gone = λ role. is_gone_after world entries role || list_any (loses world role) more;
  unclean = is_unsynced world entries || (is_unsettled entries || list_any (λ e. unsettles e.event) more);
  reshaping = reshaping;
  carried = carried;
}
