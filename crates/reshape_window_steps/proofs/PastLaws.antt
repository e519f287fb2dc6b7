-- The members with the position behind the window: where they are placed, what the update that records it leaves, and why the array stays safe.
use Rattle.std.proofs.Common.{◌≡◌, inl, inr, ◌+◌, ◌-◌, ◌^◌, ◌<◌, ◌==◌, ◌||◌, ◌&&◌, nat_le, ℕ, Bool, true, false, not, cond, List, [], replicate, Option, Some, None, refl, sym, ◌∙◌, ap, subst, arith}
use Rattle.std.specs.Option.{option_map_or}
use Rattle.std.proofs.lemmas.Bool.Decides.{nat_tests}
use Rattle.reshape_window_rows.specs.raid_types_Sectors.{Sector}
use Rattle.reshape_window_rows.specs.raid_types_the_Refusal.{Refusal}
use Rattle.reshape_window_rows.specs.raid_types_the_Refusal_TheVariants.{BackupAbsent}
use Rattle.reshape_window_rows.specs.raid_types_the_Shape.{Shape}
use Rattle.reshape_window_rows.specs.raid_types_the_Role.{Role}
use Rattle.reshape_window_rows.specs.raid_types_the_Role_TheVariants.{Whole, Recovering, Missing}
use Rattle.reshape_window_rows.specs.raid_types_the_Span.{Span}
use Rattle.reshape_window_rows.specs.bank_the_Operation.{Operation}
use Rattle.reshape_window_rows.specs.bank_Given.{Given}
use Rattle.reshape_window_rows.specs.bank_Tape.{Contents, IsIn, disk}
use Rattle.reshape_window_rows.specs.sb_codec_Superblock.{checksum}
use Rattle.reshape_window_rows.specs.sb_codec_the_Sb.{Sb}
use Rattle.reshape_window_rows.specs.reshape_geometry_Geometry.{rows, beyond, side}
use Rattle.reshape_window_rows.specs.reshape_geometry_Geometry as geometry
use Rattle.reshape_window_rows.specs.sb_specs_the_Give_TheVariants.{Same}
use Rattle.reshape_window_rows.specs.sb_specs_the_Members.{Members}
use Rattle.reshape_window_rows.specs.sb_specs_Reading.{Scope, is_clean, is_reshaping, shape_of, final_shape, next_window, role_count, rows_held, role_state}
use Rattle.reshape_window_rows.specs.sb_specs_Reads.{SaysSame}
use Rattle.reshape_window_rows.specs.sb_specs_Update.{own_in, planned}
use Rattle.reshape_window_rows.specs.sb_specs_Outcome.{AreStored, IsPlannedOwn, planned_roles}
use Rattle.reshape_window_rows.specs.stripe_row_Rows.{present, reading_of}
use Rattle.reshape_window_rows.specs.stripe_list_Full.{RowStands}
use Rattle.reshape_window_rows.specs.history_ActiveSection.{section_for}
use Rattle.reshape_window_rows.specs.history_Stands.{reach_of}
use Rattle.reshape_window_rows.specs.crash_views_Regions.{backup_of, open_by, ArePlaced}
use Rattle.reshape_window_rows.specs.crash_views_Views.{Disk, Ledger, IsHeaderFit, AreHeadersFit, IsViewRight}
use Rattle.reshape_window_rows.specs.crash_views_Windows.{HasNoSection, moved_past}
use Rattle.reshape_window_rows.proofs.crash_views_Alike.{shape-alike, final-alike}
use Rattle.reshape_window_rows.proofs.crash_views_Headers.{backup-is}
use Rattle.reshape_window_rows.proofs.crash_views_Tails.{moved-tails}
use Rattle.reshape_window_rows.proofs.crash_views_Stands.{moved-is-placed, moved-stands, moved-rows-stand, flushed-right}
use Rattle.reshape_window_rows.specs.crash_safety_laws_Kinds.{recording}
use Rattle.reshape_window_rows.specs.crash_safety_laws_Marking.{AreOthersPresent}
use Rattle.reshape_window_rows.specs.crash_safety_laws_Steady.{IsSteady, AreGoneTold}
use Rattle.reshape_window_rows.proofs.crash_safety_laws_Kept.{give_of-same}
use Rattle.reshape_window_rows.proofs.crash_safety_laws_KeptSafe.{steady-right}
use Rattle.reshape_window_rows.proofs.crash_reshape_laws_CopyRuns.{fit-headers-plain}
use Rattle.reshape_window_rows.specs.array_members_Placed.{IsPlaced, HaveSameReshape, AreLess}
use Rattle.reshape_window_rows.specs.array_members_Moving.{IsMoved}
use Rattle.reshape_window_rows.specs.array_members_Rebuilding.{AreSparesFree}
use Rattle.reshape_window_rows.specs.array_members_Lacking.{HaveFailedSince, AreHoldersFlushed}
use Rattle.reshape_window_rows.proofs.array_members_HeldRows.{rows-same, without-before}
use Rattle.reshape_window_rows.proofs.array_members_LackingLists.{row-moved}
use Rattle.reshape_window_rows.proofs.array_members_MarkLaws.{roles-kept}
use Rattle.reshape_window_rows.proofs.array_members_SafeStretch.{gone-before, allowed-later, zeros-alike}
use Rattle.reshape_window_rows.proofs.sb_safe_updates_Under.{shown-moved, shown-rows-moved}
use Rattle.reshape_window_steps.proofs.CopyLaws.{window-alike, open-alike}
use Rattle.reshape_window_steps.specs.Recording.{AreOthersFewer, IsCopiedWindow}

-- ---- where they are placed

-- a scope with a backup that is long enough, and no member's slot
abbrev pub roomy : Sb → Scope
roomy newest = record { uuid = []; given = 2 ^ 32; backup = Some 32; sizes = record { slots = 33; sectors = λ s. 8 + reach_of newest } }

pub placed-roomy : (given : Given) (m : Members) → IsPlaced given m → ArePlaced (roomy m.newest) given m
placed-roomy given m placed = record {
  fit = placed.fit;
  roles = placed.roles;
  holders = placed.holders;
  behind = placed.behind;
  members_own = λ role slot held is. other slot ((placed.holders role slot held).small) is;
  apart = placed.apart;
  backup = any (is_reshaping m.newest) (nat_le (8 + reach_of m.newest) (8 + reach_of m.newest)) (same (8 + reach_of m.newest));
}
  where
    other : (slot : ℕ) → slot < 32 → ◌≡◌ {A = Option ℕ} (Some 32) (Some slot) → ⊥
    other slot small is = let e : 32 ≡ slot = cc in absurd (omega (arith, small, e))

    same : (n : ℕ) → nat_le n n ≡ true
    same n = grind (arith, nat_tests)

    any : (active long : Bool) → long ≡ true → ◌≡◌ {A = Option Refusal} (cond (not active || (true && long)) None (Some BackupAbsent)) None
    any active false is = absurd (cc)
    any true true is = refl
    any false true is = refl

module _ (given : Given) (m : Members) (span : Span) where
  pub past-placed : IsPlaced given m → next_window m.newest ≡ Some span → IsPlaced given (moved_past span m)
  past-placed placed next =
      let past = moved-is-placed (roomy m.newest) given m span (placed-roomy given m placed) next in
      record { fit = past.fit; roles = past.roles; holders = past.holders; behind = past.behind; apart = past.apart; live = placed.live }

  -- a slot is as free as it was
  past-free : AreSparesFree given m → AreSparesFree given (moved_past span m)
  past-free free slot has =
      let f = free slot has in
      let room = f.room in
      record { room = record { small = room.small; known = room.known; short = room.short; within = room.within }; behind = f.behind; none = f.none; unlost = f.unlost }

  free-past : AreSparesFree given (moved_past span m) → AreSparesFree given m
  free-past free slot has =
      let f = free slot has in
      let room = f.room in
      record { room = record { small = room.small; known = room.known; short = room.short; within = room.within }; behind = f.behind; none = f.none; unlost = f.unlost }

-- as many rows are held
pub past-rows : (m : Members) (span : Span) (state : Role) → rows_held (reading_of (moved_past span m)) state ≡ rows_held (reading_of m) state
past-rows m span (Whole slot) = refl
past-rows m span (Recovering slot) = refl
past-rows m span Missing = refl

-- members that lost slots have lost them with the position moved
module _ (given : Given) (old new : Members) (span : Span) (moved : IsMoved given old new) where
  pub next-moved : next_window old.newest ≡ Some span → next_window new.newest ≡ Some span
  next-moved next = window-alike old.newest new.newest moved.reshape moved.shape moved.size ∙ next

  pub past-moved : next_window old.newest ≡ Some span → IsMoved given (moved_past span old) (moved_past span new)
  past-moved next = record {
    placed = past-placed given new span moved.placed (next-moved next);
    unlost = moved.unlost;
    held = moved.held;
    states = moved.states;
    rows = λ role. past-rows new span (role_state (reading_of new) role) ∙ moved.rows role ∙ sym (past-rows old span (role_state (reading_of new) role));
    spares = moved.spares;
    fewer = moved.fewer;
    free = λ free. past-free given new span (moved.free (free-past given old span free));
    reshape = record { reshaping = moved.reshape.reshaping; final = moved.reshape.final; position = ap (λ (b : Bool). beyond b span) moved.reshape.backward; backward = moved.reshape.backward };
    shape = moved.shape;
    size = moved.size;
    offsets = moved.offsets;
    whole = moved.whole;
    same = moved.same;
  }

-- the spares are free behind the update
pub free-moved : (given : Given) (old new : Members) (span : Span) → IsMoved given (moved_past span old) new → AreSparesFree given old → AreSparesFree given new
free-moved given old new span moved free = moved.free (past-free given old span free)

-- what has failed since is the same, wherever the position stands
pub since-past : (m new : Members) (span : Span) (spares : ℕ) (before after : ℕ → ℕ) → HaveFailedSince (moved_past span m) new spares before after → HaveFailedSince m new spares before after
since-past m new span spares before after since = record { roles = since.roles; spares_are = since.spares_are; were = since.were; fewer = since.fewer; told = since.told }

-- what is told of the end is told of what was before
pub gone-past : (given : Given) (old new : Members) (span : Span) → IsPlaced given old → next_window old.newest ≡ Some span → IsMoved given (moved_past span old) new → (told : Ledger) → AreGoneTold told new
    → AreGoneTold told old
gone-past given old new span placed next moved told gone = gone-before given (moved_past span old) new (past-placed given old span placed next) moved told gone

-- ---- what the update leaves

module _ (given : Given) (span : Span) (old new : Members) (placed : IsPlaced given old) (says : SaysSame (moved_past span old).newest new.newest)
    (kept : ℕ → Bool) (own : AreStored new.newest (replicate 32 Same) kept old.own new.own) (roles : new.roles ≡ planned_roles old (recording span old) new.lost) where
  -- a field of the superblock of a slot that is its own device's
  own-kept : (f : Sb → ℕ) → ((sb : Sb) (csum : ℕ) → f (record (planned new.newest Same sb) { sb_csum = csum }) ≡ f sb)
      → (slot : ℕ) → option_map_or f (own_in new.own slot) 0 ≡ option_map_or f (own_in old.own slot) 0
  own-kept f same slot = by (kept slot) refl
    where
      stored : (before after : Option Sb) → IsPlannedOwn new.newest Same before after → option_map_or f after 0 ≡ option_map_or f before 0
      stored None after is = absurd is
      stored (Some sb) after is = ap (λ (o : Option Sb). option_map_or f o 0) is.own ∙ ap f is.fields ∙ same sb (checksum is.bytes)

      by : (b : Bool) → kept slot ≡ b → option_map_or f (own_in new.own slot) 0 ≡ option_map_or f (own_in old.own slot) 0
      by true is =
          stored (own_in old.own slot) (own_in new.own slot)
          (subst (λ g. IsPlannedOwn new.newest g (own_in old.own slot) (own_in new.own slot)) (give_of-same 32 slot) (own.written slot is))
      by false is = ap (λ (o : Option Sb). option_map_or f o 0) (own.others slot is)

  pub past-less : AreLess new.lost (moved_past span old) new
  past-less = record {
    reshape = record { reshaping = sym says.reshaping; final = sym (final-alike (moved_past span old).newest new.newest says); position = sym says.reshape_position; backward = sym says.backward };
    shape = sym (shape-alike (moved_past span old).newest new.newest says);
    size = sym says.size;
    roles = roles ∙ roles-kept old.roles new.lost placed.apart (λ role slot is. (placed.holders role slot is).small) (role_count old.newest) (sym placed.roles);
    offsets = own-kept (λ sb. sb.data_offset) (λ sb csum. refl);
    rows = rows-same (reading_of new) (reading_of (moved_past span old)) (sym says.reshaping) (sym says.size) (own-kept (λ sb. sb.recovery_offset) (λ sb csum. refl));
  }

  pub past-clean : is_clean new.newest ≡ is_clean old.newest
  past-clean = ap (λ (n : ℕ). n == 2 ^ 64 - 1) (sym says.resync_offset)

-- ---- the headers

module _ (old new : Sb) (reshape : HaveSameReshape old new) (shape : shape_of new ≡ shape_of old) (size : new.size ≡ old.size) where
  pub header-alike : (scope : Scope) (header : Sector) → IsHeaderFit scope old header → IsHeaderFit scope new header
  header-alike scope header fit span named = elim (fit span named) [
    | inl next ↦ inl (window-alike old new reshape shape size ∙ next)
    | inr all ↦ inr (λ x low high. (λ i. side (reshape.backward i) (reshape.position i) x) ∙ all x low high)
  ]

-- behind the window none has an active section, and they fit
module _ (scope : Scope) (given : Given) (m : Members) (span : Span) (placed : ArePlaced scope given m) (next : next_window m.newest ≡ Some span) (d : Disk) (headers : AreHeadersFit scope m d) where
  behind : (backup : ℕ) (header : Sector) → scope.backup ≡ Some backup → IsIn (d backup 0) header
      → (open_by scope (moved_past span m).newest header ≡ None) × IsHeaderFit scope (moved_past span m).newest header
  behind backup header here may = fit-headers-plain scope given m span header placed next (λ other named. headers backup header here may other named)

  pub past-plain : HasNoSection scope (moved_past span m) d
  past-plain header may = of scope.backup refl
    where
      of : (backup : Option ℕ) → scope.backup ≡ backup → open_by scope (moved_past span m).newest header ≡ None
      of (Some b) is = (behind b header is (subst (λ (s : ℕ). IsIn (d s 0) header) (backup-is scope b is) may)).0
      of None is = ap (λ (backup : Option ℕ). section_for scope (λ s k. header) backup (next_window (moved_past span m).newest)) is

  pub past-headers : AreHeadersFit scope (moved_past span m) d
  past-headers backup header here may = (behind backup header here may).1

-- so it is of members that lost slots since, where the headers are no others
module _ (scope : Scope) (given : Given) (m new : Members) (d e : Disk) (moved : IsMoved given m new) (fewer : AreOthersFewer d e) where
  pub plain-moved : HasNoSection scope m d → HasNoSection scope new e
  plain-moved none header may = open-alike m.newest new.newest moved.reshape moved.shape moved.size scope header ∙ none header (fewer (backup_of scope) 0 header (omega arith) may)

  pub headers-moved : AreHeadersFit scope m d → AreHeadersFit scope new e
  headers-moved fit backup header here may = header-alike m.newest new.newest moved.reshape moved.shape moved.size scope header (fit backup header here (fewer backup 0 header (omega arith) may))

-- ---- why the array stays safe

-- the members that are flushed are right with the position behind the window
module _ (sound : Type 0) (scope : Scope) (given : Given) (told : Ledger) (m new : Members) (span : Span) (list : ℕ → Sector) (before after : List Operation)
    (was : IsPlaced given m) (next : next_window m.newest ≡ Some span) (moved : IsMoved given m new) (clean : is_clean new.newest ≡ is_clean m.newest)
    (flushed : AreHoldersFlushed (reading_of new) given after) (others : AreOthersPresent (present given before) (present given after))
    (fewer : AreOthersFewer (disk given.start before) (disk given.start after))
    (copied : IsCopiedWindow sound scope told m span list (present given before) (disk given.start before)) (gone : AreGoneTold told new) where
  abbrev now : Contents
  now = present given after

  window-now : (row : ℕ) → geometry.IsIn row (rows (final_shape new.newest) span.lo span.hi) → RowStands (reading_of new) now (final_shape new.newest) list row
  window-now row at = subst (λ (s : Shape). RowStands (reading_of new) now s list row) (sym moved.reshape.final)
      (row-moved given m new (present given before) now list moved was others row (final_shape m.newest)
      (copied.window row (subst (λ (s : Shape). geometry.IsIn row (rows s span.lo span.hi)) moved.reshape.final at)))

  pub past-right : IsSteady sound scope given told new (disk given.start after) → IsViewRight sound scope given told (moved_past span new) (disk given.start after)
  past-right steady =
      let right = steady-right sound scope given told new (disk given.start after) steady gone in
      let ahead = next-moved given m new span moved next in
      let headers = headers-moved scope given m new (disk given.start before) (disk given.start after) moved fewer copied.headers in
      flushed-right sound scope given told (moved_past span new) now list (disk given.start after) (record {
        placed = moved-is-placed scope given new span right.placed ahead;
        sized = right.sized;
        flushed = λ role slot k held other. flushed role slot k held other;
        allowed = λ x lt. allowed-later given m new moved told.values list copied.allowed x lt;
        stands = moved-stands scope given new span now list right.placed ahead (λ row at. (window-now row at).sectors)
            (shown-moved given m new (present given before) now list moved was others (Some span) copied.stands);
        rows = λ is does premise.
            moved-rows-stand scope given new span now list right.placed ahead window-now
            (shown-rows-moved given m new (present given before) now list moved was others (Some span)
            (copied.rows_are (sym clean ∙ is) (without-before given m new moved (record { old = does.old; final = does.final })) premise));
        plain = past-plain scope given new span right.placed ahead (disk given.start after) headers;
        missing = right.gone;
        unclean = right.unclean;
        reshaping = right.reshaping;
        headers = λ active premise. past-headers scope given new span right.placed ahead (disk given.start after) headers;
        zeros = λ premise. zeros-alike (moved_past span m).newest (moved_past span new).newest (past-moved given m new span moved next).reshape moved.shape moved.size list (copied.zeros premise);
        tails = λ premise. moved-tails scope given new span now list right.placed ahead (λ row at. (window-now row at).sectors);
      })
