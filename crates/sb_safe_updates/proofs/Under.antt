-- How the list stands whichever header a stop leaves: on fewer members, and on those of one shape.
use Rattle.std.proofs.Common.{◌≡◌, inl, inr, ⊎_elim, ℕ, ◌+◌, ◌-◌, ◌<◌, ◌&&◌, ◌||◌, Bool, true, false, cond, nat_lt, List, [], ◌∷◌, Option, Some, None, refl, sym, ◌∙◌, ap, subst, arith, not}
use Rattle.std.specs.Prelude.{unwrap_or}
use Rattle.raid_layout.specs.raid_types_the_Shape.{Shape}
use Rattle.raid_layout.specs.raid_types_the_Span.{Span}
use Rattle.raid_layout.specs.raid_types_Sectors.{Sector}
use Rattle.raid_layout.specs.raid_types_Shapes.{has_slot}
use Rattle.sb_update.specs.bank_Given.{Given}
use Rattle.sb_update.specs.bank_Tape.{Contents, IsIn, NoWrite, AreFlushes, choices, disk}
use Rattle.sb_update.specs.sb_codec_the_Sb.{Sb}
use Rattle.raid_layout.specs.Layout.{place}
use Rattle.sb_update.specs.reshape_geometry_Geometry.{window}
use Rattle.sb_update.specs.sb_specs_the_Members.{Members}
use Rattle.sb_update.specs.sb_specs_Reading.{Scope, is_reshaping, shape_of, next_window, data_offset_of}
use Rattle.sb_update.specs.sb_specs_Outcome.{live_set}
use Rattle.sb_update.proofs.sb_specs_ReadLists.{by_bool}
use Rattle.array_members.specs.stripe_row_Rows.{reading_of, held_slot, members_without}
use Rattle.array_members.proofs.stripe_row_Losses.{holder-of}
use Rattle.array_members.specs.stripe_list_Full.{RowStands}
use Rattle.array_members.specs.history_Stands.{shape_for}
use Rattle.array_members.specs.history_ActiveSection.{section_for}
use Rattle.array_members.specs.crash_views_Regions.{backup_of, open_by, place_by}
use Rattle.array_members.specs.crash_views_Views.{Disk, Ledger}
use Rattle.array_members.specs.crash_views_Windows.{IsShown}
use Rattle.array_members.specs.crash_views_Windows.{ListStands as IsListShown, RowsStand as AreRowsShown}
use Rattle.array_members.proofs.crash_views_Alike.{row-below}
use Rattle.array_members.proofs.crash_views_Stands.{for-still, data-at, StandsAt}
use Rattle.array_members.specs.crash_safety_laws_Marking.{marking, AreOthersPresent}
use Rattle.array_members.specs.crash_safety_laws_Steady.{IsSafeNow}
use Rattle.array_members.proofs.crash_safety_laws_Carried.{live-known}
use Rattle.array_members.proofs.crash_safety_laws_Stretch.{seen-own}
use Rattle.std.specs.List.{list_any}
use Rattle.sb_update.specs.bank_the_Operation.{Operation}
use Rattle.sb_update.specs.bank_the_Operation_TheVariants.{Write, Flush}
use Rattle.sb_update.proofs.bank_Laws.{choices-kept, choices-append, kept_in}
use Rattle.sb_update.specs.sb_specs_Updating.{IsTouched}
use Rattle.sb_update.specs.sb_specs_Update.{is_held_by}
use Rattle.sb_update.specs.sb_specs_Reads.{has_spare}
use Rattle.array_members.specs.Flushing.{OnlyFlushesAdded}
use Rattle.array_members.proofs.crash_safety_laws_Without.{live-is, any-without, in-both}
use Rattle.array_members.specs.Placed.{IsPlaced, HaveSameReshape}
use Rattle.array_members.specs.Moving.{IsMoved}
use Rattle.array_members.specs.Lacking.{ListStands, RowsStand}
use Rattle.array_members.specs.Under.{StandsUnder, RowsStandUnder, IsIdle, IsRestKept}
use Rattle.array_members.proofs.Fit.{valid, for-alike, list-alike}
use Rattle.array_members.proofs.HeldRows.{held-moved}
use Rattle.array_members.proofs.LackingLists.{row-moved}
use Rattle.array_members.proofs.SafeStretch.{zeros-later}
use Rattle.array_members.proofs.Still.{open-still, tail-still}

-- ---- the section is the same

module _ (old new : Sb) (reshape : HaveSameReshape old new) (shape : shape_of new ≡ shape_of old) (size : new.size ≡ old.size) where
  next-alike : next_window new ≡ next_window old
  next-alike i = cond (reshape.reshaping i) (window (shape i) (reshape.final i) (size i) (reshape.backward i) (reshape.position i)) None

  pub open-alike : (scope : Scope) (header : Sector) → open_by scope new header ≡ open_by scope old header
  open-alike scope header = ap (section_for scope (λ s k. header) scope.backup) next-alike

-- ---- on members that moved

module _ (given : Given) (old new : Members) (before after : Contents) (list : ℕ → Sector) (moved : IsMoved given old new) (was : IsPlaced given old) (others : AreOthersPresent before after) (hidden : Option Span) where
  for-moved : (x : ℕ) → shape_for new.newest x ≡ shape_for old.newest x
  for-moved = for-alike old.newest new.newest moved.reshape moved.shape moved.size

  shown-before : (x : ℕ) → IsShown hidden new.newest x → IsShown hidden old.newest x
  shown-before x shown = record {
    within = subst (λ (n : ℕ). x < n) (list-alike old.newest new.newest moved.reshape moved.shape moved.size) shown.within;
    outside = shown.outside;
  }

  -- what a slot that holds it has of it is as it was
  there-still : (slot role row : ℕ) → held_slot (reading_of new) role row ≡ Some slot → after slot (data_offset_of (reading_of new) slot + row) ≡ before slot (data_offset_of (reading_of old) slot + row)
  there-still slot role row held =
      ap (λ (n : ℕ). after slot (n + row)) (moved.offsets slot)
      ∙ others slot (data_offset_of (reading_of old) slot + row)
      (λ e. absurd (let far = was.behind role slot (moved.held role slot (holder-of (reading_of new) role row slot held)) in omega (arith, e, far)))

  pub shown-moved : IsListShown hidden old before list → IsListShown hidden new after list
  shown-moved stands x slot shown = subst (λ (s : Shape). StandsAt new after list x (place s x)) (sym (for-moved x))
      (λ slot held. there-still slot (place_by old.newest x).role (place_by old.newest x).row held
      ∙ stands x slot (shown-before x shown) (held-moved moved (place_by old.newest x).role (place_by old.newest x).row slot held)) slot

  pub shown-rows-moved : AreRowsShown hidden old before list → AreRowsShown hidden new after list
  shown-rows-moved stands x shown =
      subst (λ (s : Shape). RowStands (reading_of new) after s list (place s x).row) (sym (for-moved x))
      (row-moved given old new before after list moved was others (place_by old.newest x).row (shape_for old.newest x) (stands x (shown-before x shown)))

-- ---- what a stop leaves of the backup

-- a slot that isn't idle isn't the backup
pub backup-idle : (sound : Type 0) (scope : Scope) (given : Given) (m : Members) (d : Disk) {told : Ledger} → IsSafeNow sound scope given told m d → (slot : ℕ) → scope.backup ≡ Some slot → IsIdle m slot
backup-idle sound scope given m d {told} safe slot backup = ⊎_elim
    (λ live. ⊎_elim (λ lost. inr lost) (λ here. absurd (never safe live here)) (by_bool (has_slot m.lost slot)))
    (λ none. inl none)
    (by_bool (has_slot (live_set m (marking m false)) slot))
  where
    never : IsSafeNow sound scope given told m d → has_slot (live_set m (marking m false)) slot ≡ true → has_slot m.lost slot ≡ false → ⊥
    never (inl steady) live here = seen-own scope slot (live-known scope steady.former m (marking m false) d slot refl steady.since live here).seen backup
    never (inr spent) live here = spent.none (slot, live, here)

-- a section is that of a backup
section-backup : (scope : Scope) (c : Contents) (backup : Option ℕ) (window : Option Span) (span : Span) → section_for scope c backup window ≡ Some span → backup ≡ Some (unwrap_or backup 0)
section-backup scope c (Some backup) window span is = refl
section-backup scope c None window span is = absurd (cc)

-- So the list stands on, where nothing but superblocks of slots that aren't idle was written.
module _ (scope : Scope) (given : Given) (old new : Members) (before after : Contents) (d e : Disk) (list : ℕ → Sector) (moved : IsMoved given old new) (was : IsPlaced given old)
    (others : AreOthersPresent before after) (kept : IsRestKept old d e) where
  header-before : (header : Sector) → IsIn (e (backup_of scope) 0) header → IsIn (d (backup_of scope) 0) header
  header-before header may = kept (backup_of scope) 0 header (inl (omega arith)) may

  section-alike : (header : Sector) → open_by scope new.newest header ≡ open_by scope old.newest header
  section-alike = open-alike old.newest new.newest moved.reshape moved.shape moved.size scope

  pub under-moved : {sound : Type 0} {told : Ledger} → IsSafeNow sound scope given told old d → StandsUnder scope old before d list → StandsUnder scope new after e list
  under-moved {sound} safe stands = record {
    outside = λ header may. subst (λ (o : Option Span). IsListShown o new after list) (sym (section-alike header))
        (shown-moved given old new before after list moved was others (open_by scope old.newest header) (stands.outside header (header-before header may)));
    sections = λ header may span active x low high v is.
        let was_active = sym (section-alike header) ∙ active in
        stands.sections header (header-before header may) span was_active x low high v
        (kept (backup_of scope) (8 + (x - span.lo)) v
        (inr (backup-idle sound scope given old d safe (backup_of scope) (section-backup scope (λ s k. header) scope.backup (next_window old.newest) span was_active))) is);
  }

  pub rows-under-moved : RowsStandUnder scope old before d list → RowsStandUnder scope new after e list
  rows-under-moved stands = record {
    rows = λ header may. subst (λ (o : Option Span). AreRowsShown o new after list) (sym (section-alike header))
        (shown-rows-moved given old new before after list moved was others (open_by scope old.newest header) (stands.rows header (header-before header may)));
    zeros = zeros-later given old new moved list stands.zeros;
  }

-- ---- an array of one shape

module _ (scope : Scope) (given : Given) (m : Members) (c : Contents) (d : Disk) (list : ℕ → Sector) (placed : IsPlaced given m) (still : is_reshaping m.newest ≡ false) where
  row-inside : (hidden : Option Span) (x : ℕ) → IsShown hidden m.newest x → (place (shape_of m.newest) x).row < m.newest.size
  row-inside hidden x shown = subst (λ (s : Shape). (place s x).row < m.newest.size) (for-still m.newest still x) (row-below m.newest placed.fit x shown.within)

  pub still-under : ListStands m c list → StandsUnder scope m c d list
  still-under stands = record {
    outside = λ header may x slot shown. subst (λ (s : Shape). StandsAt m c list x (place s x)) (sym (for-still m.newest still x))
        (data-at m c list (shape_of m.newest) (valid given m placed) (place (shape_of m.newest) x).row
        (stands (place (shape_of m.newest) x).row (row-inside (open_by scope m.newest header) x shown)) x refl) slot;
    sections = λ header may span active. absurd (let none = open-still m.newest still scope header in let clash = sym active ∙ none in cc);
  }

  pub still-rows-under : RowsStand m c list → RowsStandUnder scope m c d list
  still-rows-under stands = record {
    rows = λ header may x shown. subst (λ (s : Shape). RowStands (reading_of m) c s list (place s x).row) (sym (for-still m.newest still x))
        (stands (place (shape_of m.newest) x).row (row-inside (open_by scope m.newest header) x shown));
    zeros = tail-still m.newest still list;
  }

-- ---- what is left as it was

no-write : (s k : ℕ) (ops : List Operation) → AreFlushes ops → NoWrite s k ops
no-write s k [] only = tt
no-write s k (Flush t ∷ ops) only = no-write s k ops only
no-write s k (Write t j w ∷ ops) only = absurd only

-- flushes leave nothing new
pub flushed-fewer : (start : Contents) (before after : List Operation) → OnlyFlushesAdded before after → (s k : ℕ) (v : Sector) → IsIn (disk start after s k) v → IsIn (disk start before s k) v
flushed-fewer start before after added s k v may =
    kept_in (disk start before s k) (choices s k (disk start before s k) added.0) v (choices-kept s k (disk start before s k) added.0 (no-write s k added.0 added.1))
    (subst (λ (l : List Sector). IsIn l v) (ap (λ (l : List Operation). disk start l s k) added.2 ∙ choices-append s k (start s k ∷ []) before added.0) may)

-- neither does an update, but in superblocks of live slots
pub rest-touched : {Written : ℕ → Sector → Type 0} (m : Members) (clean : Bool) (d e : Disk) → IsTouched (live_set m (marking m clean)) m.lost Written d e → IsRestKept m d e
rest-touched m clean d e touched s k v (inl other) may = kept_in (d s k) (e s k) v (touched.elsewhere s k other) may
rest-touched m clean d e touched s k v (inr (inl none)) may =
    subst (λ (l : List Sector). IsIn l v) (touched.others s k (live-is m clean s ∙ sym (live-is m false s) ∙ none)) may
rest-touched m clean d e touched s k v (inr (inr lost)) may = subst (λ (l : List Sector). IsIn l v) (touched.gone s k lost) may

-- a slot stays idle where others are lost
pub idle-without : (m : Members) (gone s : ℕ) → IsIdle m s → IsIdle (members_without gone m) s
idle-without m gone s (inr lost) = inr (in-both m.lost gone s ∙ ap (λ (b : Bool). b || has_slot gone s) lost)
idle-without m gone s (inl none) = inl (live-is (members_without gone m) false s
    ∙ ap (λ (b : Bool). nat_lt s 32 && ((b || has_spare m.spares s) || false)) (any-without gone s m.roles)
    ∙ less (nat_lt s 32) (not (has_slot gone s)) (list_any (is_held_by s) m.roles) (has_spare m.spares s) (sym (live-is m false s) ∙ none))
  where
    less : (below kept role spare : Bool) → (below && ((role || spare) || false)) ≡ false → (below && (((kept && role) || spare) || false)) ≡ false
    less false kept role spare e = refl
    less true true role spare e = e
    less true false true spare e = absurd (cc)
    less true false false spare e = e
