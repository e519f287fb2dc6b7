-- Updates in which each slot stays what it is keep an array safe: the mark, and the record of a position.
use Rattle.std.proofs.Common.{◌≡◌, inl, ℕ, ◌-◌, ◌^◌, ◌<◌, ◌==◌, ◌||◌, Bool, true, false, not, cond, List, length, Some, None, refl, sym, ◌∙◌, ap, subst, arith}
use Rattle.std.specs.Prelude.{⊤}
use Rattle.crash_views.specs.raid_types_the_Span.{Span}
use Rattle.crash_views.specs.raid_types_the_Role.{Role}
use Rattle.sb_update_laws.specs.sb_codec_the_Sb.{Sb}
use Rattle.crash_views.specs.bank_the_Operation.{Operation}
use Rattle.crash_views.specs.bank_Given.{Given}
use Rattle.crash_views.specs.bank_Tape.{disk}
use Rattle.crash_views.specs.sb_specs_the_Give.{Give}
use Rattle.crash_views.specs.sb_specs_the_Give_TheVariants.{Same}
use Rattle.crash_views.specs.sb_specs_the_Give_TheVariants as give
use Rattle.crash_views.specs.sb_specs_the_Change.{Change}
use Rattle.crash_views.specs.sb_specs_the_Members.{Members}
use Rattle.crash_views.specs.raid_types_the_Refusal_TheVariants.{PositionNotOnUnit}
use Rattle.crash_views.specs.raid_types_Shapes.{is_multiple, is_valid_shape}
use Rattle.crash_views.specs.reshape_geometry_Geometry.{unit, is_size}
use Rattle.crash_views.specs.sb_specs_Reading.{Scope, shape_of, final_shape, role_count}
use Rattle.crash_views.specs.sb_specs_Reads.{SaysSame}
use Rattle.crash_views.specs.sb_specs_Verdict.{off_unit}
use Rattle.crash_views.specs.sb_specs_Update.{is_recovery}
use Rattle.crash_views.specs.sb_specs_Updating.{planned_newest}
use Rattle.crash_views.specs.stripe_row_Rows.{reading_of, is_missing, members_without}
use Rattle.crash_views.specs.history_Stands.{backup_absent}
use Rattle.crash_views.specs.Regions.{AreShapesFit, ArePlaced}
use Rattle.crash_views.specs.Views.{Disk, Ledger, IsTail, IsViewRight}
use Rattle.crash_views.specs.Windows.{moved_past}
use Rattle.crash_safety_laws.specs.Updates.{planned_view, IsLessView}
use Rattle.crash_safety_laws.specs.Safety.{HasLiveSlot, HasRoomLeft}
use Rattle.crash_safety_laws.specs.Steady.{AreGoneTold, IsSteady, IsSafeNow, IsNamedNow}
use Rattle.crash_safety_laws.specs.Changing.{IsChanged, IsPlannedSafe, IsFitUpdate, IsSafeChange}
use Rattle.crash_safety_laws.specs.Kinds.{IsKeepingAll, KeptStaysSafe, IsMarkable, MarkStaysSafe, recording, RecordStaysSafe}
use Rattle.crash_safety_laws.specs.Marking.{resync_of, marking}
use Rattle.crash_safety_laws.proofs.LessViews.{less-right}
use Rattle.crash_views.proofs.Alike.{shape-alike, final-alike, length-alike, backup-alike}
use Rattle.crash_safety_laws.proofs.PlansLose.{plans-lose}
use Rattle.crash_safety_laws.proofs.PlannedRoles.{says-shared, count-planned}
use Rattle.crash_safety_laws.proofs.ChangeViews.{placed-less, plan-told}
use Rattle.crash_safety_laws.proofs.ChangeSafe.{safe-change, one-stretch, change-named}
use Rattle.crash_safety_laws.proofs.Kept.{without-less, give_of-same, kept-less}
use Rattle.crash_safety_laws.proofs.FitKinds.{taking-is-fit}

-- ---- what says the same fits as well

module _ (M N : Sb) (a : SaysSame M N) (fit : AreShapesFit M) where
  unit-alike : off_unit M ≡ off_unit N
  unit-alike i = cond (not (a.reshaping i) || is_multiple (a.reshape_position i) (unit (shape-alike M N a i) (final-alike M N a i)) || (a.reshape_position i == length-alike M N a i))
      None (Some (PositionNotOnUnit (a.reshape_position i) (unit (shape-alike M N a i) (final-alike M N a i))))

  pub fits-alike : AreShapesFit N
  fits-alike = record {
    valid = record {
      old = sym (λ i. is_valid_shape (shape-alike M N a i)) ∙ fit.valid.old;
      final = sym (λ i. is_valid_shape (final-alike M N a i)) ∙ fit.valid.final;
    };
    size = sym (λ i. is_size (a.size i) (shape-alike M N a i).chunk) ∙ fit.size;
    final_size = sym (λ i. is_size (a.size i) (final-alike M N a i).chunk) ∙ fit.final_size;
    level = sym (λ i. (final-alike M N a i).level) ∙ fit.level ∙ (λ i. (shape-alike M N a i).level);
    unit = sym unit-alike ∙ fit.unit;
    position = λ active. (let below = fit.position (a.reshaping ∙ active) in let place = a.reshape_position in let long = length-alike M N a in omega (arith, below, place, long));
    delta = λ active forward. (
        let more = fit.delta (a.reshaping ∙ active) (a.backward ∙ forward) in
        let few : (shape_of M).disks ≡ (shape_of N).disks = (λ i. (shape-alike M N a i).disks) in
        let many : (final_shape M).disks ≡ (final_shape N).disks = (λ i. (final-alike M N a i).disks) in
        omega (arith, more, few, many));
    delta_back = λ active back. (
        let more = fit.delta_back (a.reshaping ∙ active) (a.backward ∙ back) in
        let few : (shape_of M).disks ≡ (shape_of N).disks = (λ i. (shape-alike M N a i).disks) in
        let many : (final_shape M).disks ≡ (final_shape N).disks = (λ i. (final-alike M N a i).disks) in
        omega (arith, more, few, many));
  }

-- the shapes that fit, by what the plan says of the array
pub planned-fits : (old : Members) (change : Change) → AreShapesFit change.shared → AreShapesFit (planned_newest change.shared old.newest)
planned-fits old change fit = fits-alike change.shared (planned_newest change.shared old.newest) (says-shared old change) fit

pub planned-backup : (scope : Scope) (old : Members) (change : Change) → backup_absent scope change.shared ≡ None → backup_absent scope (planned_newest change.shared old.newest) ≡ None
planned-backup scope old change there = sym (backup-alike change.shared (planned_newest change.shared old.newest) (says-shared old change) scope) ∙ there

-- ---- what is missing at the end is told

pub told-plan : (told : Ledger) (given : Given) (change : Change) (old new : Members) (before after : List Operation) → IsChanged ⊤ given change old new before after → AreGoneTold told new
    → AreGoneTold told (planned_view old change new.lost)
told-plan told given change old new before after m gone role lt missing = gone role (subst (λ (z : Sb). role < role_count z) (sym m.newest.same) lt)
    (ap (λ (l : List Role). is_missing (record (reading_of new) { roles = l }) role) m.roles ∙ missing)

-- ---- the members as they are, where slots were lost since the superblocks were written

pub without-right : (sound : Type 0) (scope : Scope) (given : Given) (told : Ledger) (former : Members) (gone : ℕ) (d : Disk) → IsViewRight sound scope given told former d
    → AreGoneTold told (members_without gone former) → IsViewRight sound scope given told (members_without gone former) d
without-right sound scope given told former gone d right tells = less-right sound scope given told former (members_without gone former) d (without-less former gone)
    (placed-less scope given former (members_without gone former) (without-less former gone) right.placed.fit right.placed.backup right.placed) tells right

pub steady-right : (sound : Type 0) (scope : Scope) (given : Given) (told : Ledger) (old : Members) (d : Disk) → IsSteady sound scope given told old d → AreGoneTold told old
    → IsViewRight sound scope given told old d
steady-right sound scope given told old d steady = subst (λ (o : Members). AreGoneTold told o → IsViewRight sound scope given told o d) (sym steady.since.since)
    (λ tells. without-right sound scope given told steady.former steady.since.gone d steady.right tells)

-- as many roles as the array has
pub steady-count : (sound : Type 0) (scope : Scope) (given : Given) (told : Ledger) (old : Members) (d : Disk) → IsSteady sound scope given told old d → length old.roles ≡ role_count old.newest
steady-count sound scope given told old d steady = subst (λ (o : Members). length o.roles ≡ role_count o.newest) (sym steady.since.since)
    ((without-less steady.former steady.since.gone).roles ∙ steady.right.placed.roles)

-- ---- any such update

module _ (sound : Type 0) (scope : Scope) (given : Given) (told more : Ledger) (change : Change) (old new : Members) (before after : List Operation)
    (m : IsChanged ⊤ given change old new before after) (keeps : IsKeepingAll old change) (gone : AreGoneTold more new)
    (carried : (slot number : ℕ) → told.carried slot number ≡ true → more.carried slot number ≡ true) (steady : IsSteady sound scope given told old (disk given.start before)) where
  fit : IsFitUpdate old change
  fit = taking-is-fit scope steady.former old change (disk given.start before) steady.since (record {
    none = keeps.none;
    size = keeps.size;
    count = (let same = keeps.count in omega (arith, same));
    each = λ s. inl (keeps.same s);
    apart = λ s t role a b is is'. absurd (let clash : ◌≡◌ {A = Give} Same (give.Role role a) = sym (keeps.same s) ∙ is in cc);
    one = λ s t is is'. absurd (let none = ap is_recovery (keeps.same s) in let clash = sym none ∙ is in cc);
  })

  count-old : length old.roles ≡ role_count change.shared
  count-old = steady-count sound scope given told old (disk given.start before) steady ∙ sym keeps.count

  less : IsLessView (record old { newest = change.shared }) (planned_view old change old.lost)
  less = kept-less old change old.lost keeps.same count-old

  told-end : AreGoneTold more (planned_view old change new.lost)
  told-end = told-plan more given change old new before after m gone

  -- what the members miss now is missing in the end
  pub told-as : AreGoneTold more (record old { newest = change.shared })
  told-as role lt missing = told-end role (let plan = count-planned old change in omega (arith, lt, plan))
      ((plans-lose old change old.lost new.lost m.stay fit.one_holder).missing role (less.missing role missing))

  module _ (right : IsViewRight sound scope given more (record old { newest = change.shared }) (disk given.start before)) where
    placed : ArePlaced scope given (planned_view old change old.lost)
    placed = placed-less scope given (record old { newest = change.shared }) (planned_view old change old.lost) less (planned-fits old change right.placed.fit) (planned-backup scope old change right.placed.backup) right.placed

    safe : IsPlannedSafe sound scope given told more change old new (disk given.start before)
    safe = record {
      fit = fit;
      right = less-right sound scope given more (record old { newest = change.shared }) (planned_view old change old.lost) (disk given.start before) less placed
          (plan-told scope given old change placed fit.one_holder more old.lost new.lost (λ s is. is) m.stay told-end) right;
      gone = told-end;
      carried = carried;
    }

pub kept-safe : (sound : Type 0) → KeptStaysSafe sound
kept-safe sound scope given told more change old new before after m keeps room gone carried right now =
    safe-change sound scope given told more change old new before after m keeps.none (λ s isnt. keeps.same s) room
    (λ steady. safe sound scope given told more change old new before after m keeps gone carried steady (right steady)) now

-- ---- the mark

keeps-mark : (old : Members) (clean : Bool) → IsKeepingAll old (marking old clean)
keeps-mark old clean = record { none = refl; size = refl; count = refl; same = λ s. give_of-same 32 s }

clean-is : (clean : Bool) → (resync_of clean == 2 ^ 64 - 1) ≡ clean
clean-is true = refl
clean-is false = refl

module _ (sound : Type 0) (scope : Scope) (given : Given) (told : Ledger) (clean : Bool) (old new : Members) (d : Disk) (markable : IsMarkable sound scope clean told old new d)
    (right : IsViewRight sound scope given told old d) where
  tail-old : (x : ℕ) → IsTail (marking old clean).shared x → IsTail old.newest x
  tail-old x tail = record { active = tail.active; forth = tail.forth; through = tail.through; past = tail.past; stripe = tail.stripe }

  -- the view with the mark is right
  pub marked-right : IsViewRight sound scope given told (record old { newest = (marking old clean).shared }) d
  marked-right = record {
    placed = record {
      fit = record {
        valid = record { old = right.placed.fit.valid.old; final = right.placed.fit.valid.final };
        size = right.placed.fit.size;
        final_size = right.placed.fit.final_size;
        level = right.placed.fit.level;
        unit = right.placed.fit.unit;
        position = right.placed.fit.position;
        delta = right.placed.fit.delta;
        delta_back = right.placed.fit.delta_back;
      };
      roles = right.placed.roles;
      holders = λ role slot held. (let k = right.placed.holders role slot held in record { small = k.small; known = k.known; short = k.short; within = k.within });
      behind = right.placed.behind;
      members_own = right.placed.members_own;
      apart = right.placed.apart;
      backup = right.placed.backup;
    };
    sized = right.sized;
    gone = right.gone;
    unclean = λ dirty. markable.unclean (sym (clean-is clean) ∙ dirty);
    reshaping = right.reshaping;
    held = λ header may x slot outside. right.held header may x slot (record { within = outside.within; outside = outside.outside });
    sections = right.sections;
    settled = λ is does premise. (
        let s = markable.settled (sym (clean-is clean) ∙ is) (record { old = does.old; final = does.final }) premise in
        record {
          list = s.list;
          allowed = s.allowed;
          rows = λ c drawn x outside. (let r = s.rows c drawn x (record { within = outside.within; outside = outside.outside }) in record { whole = r.whole; sectors = r.sectors; parity = r.parity });
          zeros = λ x tail. s.zeros x (tail-old x tail);
        });
    headers = right.headers;
    tails = λ premise x slot tail. right.tails premise x slot (tail-old x tail);
  }

module _ (sound : Type 0) (scope : Scope) (given : Given) (told : Ledger) (clean : Bool) (old new : Members) (before after : List Operation)
    (m : IsChanged ⊤ given (marking old clean) old new before after) (room : HasRoomLeft old before after) (markable : IsMarkable sound scope clean told old new (disk given.start before))
    (now : IsSafeNow sound scope given told old (disk given.start before)) where
  pub marked-change : IsSafeChange sound scope given told told new before after
  marked-change = kept-safe sound scope given told told (marking old clean) old new before after m (keeps-mark old clean) room markable.gone (λ slot number is. is) (λ steady.
      marked-right sound scope given told clean old new (disk given.start before) markable (steady-right sound scope given told old (disk given.start before) steady
      (λ role lt missing. told-as sound scope given told told (marking old clean) old new before after m (keeps-mark old clean) markable.gone (λ slot number is. is) steady role lt missing))) now

pub mark-safe : (sound : Type 0) → MarkStaysSafe sound
mark-safe sound scope given told clean old new before after m room markable now =
    one-stretch sound scope given told new before after (marked-change sound scope given told clean old new before after m room markable now)

-- where a live slot is left at its end, each lost slot that held a role is named
pub mark-named : (sound : Type 0) (scope : Scope) (given : Given) (told : Ledger) (clean : Bool) (old new : Members) (before after : List Operation)
    → IsChanged ⊤ given (marking old clean) old new before after → HasRoomLeft old before after → IsMarkable sound scope clean told old new (disk given.start before)
    → IsSafeNow sound scope given told old (disk given.start before) → HasLiveSlot new → IsNamedNow sound scope given told new (disk given.start after)
mark-named sound scope given told clean old new before after m room markable now left =
    change-named sound scope given told told new before after (marked-change sound scope given told clean old new before after m room markable now) left

-- ---- the position

keeps-record : (span : Span) (old : Members) → IsKeepingAll old (recording span old)
keeps-record span old = record { none = refl; size = refl; count = refl; same = λ s. give_of-same 32 s }

pub record-safe : (sound : Type 0) → RecordStaysSafe sound
record-safe sound scope given told span old new before after m room gone right now =
    one-stretch sound scope given told new before after
    (kept-safe sound scope given told told (recording span old) old new before after m (keeps-record span old) room gone (λ slot number is. is) (λ steady.
    subst (λ (o : Members). AreGoneTold told (moved_past span o) → IsViewRight sound scope given told (moved_past span o) (disk given.start before)) (sym steady.since.since)
    (λ tells. without-right sound scope given told (moved_past span steady.former) steady.since.gone (disk given.start before) (right steady) tells)
    (told-as sound scope given told told (recording span old) old new before after m (keeps-record span old) gone (λ slot number is. is) steady)) now)
