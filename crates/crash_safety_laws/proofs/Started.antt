-- Superblocks that are held, of members of which some slots were lost since: any fit update may start, and what its rounds plan is what they say.
use Rattle.std.proofs.Common.{◌≡◌, ⊎_elim, ℕ, ◌+◌, ◌-◌, ◌^◌, ◌<◌, ◌≤◌, ◌||◌, ◌&&◌, Bool, true, false, not, nat_lt, min, map, bit_or, List, [], ◌++◌, take, drop, length, get_or, Option, Some, None, refl, sym, ◌∙◌, ap, subst, arith}
use Rattle.std.specs.Prelude.{find}
use Rattle.std.specs.List.{list_any}
use Rattle.std.proofs.lemmas.Bool.Decides.{nat_tests}
use Rattle.crash_views.specs.raid_types_Shapes.{has_slot}
use Rattle.crash_views.specs.raid_types_the_Role.{Role}
use Rattle.crash_views.specs.raid_types_the_Role_TheVariants.{Missing}
use Rattle.sb_update_laws.specs.sb_codec_the_Sb.{Sb}
use Rattle.crash_views.specs.sb_specs_the_Change.{Change}
use Rattle.crash_views.specs.sb_specs_the_Members.{Members}
use Rattle.crash_views.specs.sb_specs_Reading.{Scope, role_count, holder}
use Rattle.crash_views.specs.sb_specs_Reads.{SaysSame, has_spare}
use Rattle.crash_views.specs.sb_specs_Update.{give_of, is_held_by, is_live, is_added, planned_role, is_planned_spare, slot_entry, entry_for, with_entries, with_roles, faulty_role}
use Rattle.crash_views.specs.sb_specs_Updating.{planned_newest, IsLater, AreNamed}
use Rattle.crash_views.specs.sb_specs_Outcome.{is_in_update, live_set, planned_state, planned_roles}
use Rattle.crash_views.specs.sb_specs_Verdict.{judged_fields}
use Rattle.crash_views.specs.sb_specs_Stages.{AreLeft, AreKept}
use Rattle.crash_views.specs.sb_specs_Plans.{IsFitChange}
use Rattle.crash_views.specs.sb_specs_Rounds.{IsReady}
use Rattle.crash_views.specs.sb_specs_Crash.{IsWithin}
use Rattle.crash_views.specs.sb_read_laws_Said.{AreSaidAsPlanned}
use Rattle.crash_views.proofs.sb_specs_ReadAlike.{tabulate-same}
use Rattle.crash_views.proofs.sb_specs_ReadLists.{by_bool}
use Rattle.crash_views.proofs.sb_read_laws_RoundReads.{left_set, left-are}
use Rattle.crash_views.proofs.sb_read_laws_RoundsRead.{more-held}
use Rattle.crash_views.proofs.sb_read_laws_SaidSlots.{role-known, spare-known}
use Rattle.crash_views.proofs.sb_read_laws_Tied.{IsPlannedNewest, planned-said}
use Rattle.crash_views.specs.stripe_row_Rows.{role_without, members_without}
use Rattle.crash_views.specs.Regions.{AreShapesFit}
use Rattle.crash_views.specs.Views.{Disk}
use Rattle.crash_safety_laws.specs.Marking.{marking}
use Rattle.crash_safety_laws.specs.Held.{IsHeldBy}
use Rattle.crash_safety_laws.specs.Changing.{IsFitUpdate}
use Rattle.crash_safety_laws.proofs.Without.{in-both, any-without, any-holds, state-without, without-holder, live-of, in-live}
use Rattle.crash_safety_laws.proofs.FitFields.{fields-fit}
use Rattle.crash_safety_laws.proofs.PlannedRoles.{says-shared, gets-live, spare-live, role-same, state-same}

-- ---- tests

both-of : (a b : Bool) → (a && b) ≡ true → (a ≡ true) × (b ≡ true)
both-of true b e = (refl, e)
both-of false b e = absurd (cc)

left-and : (a b : Bool) → (a && not b) ≡ true → (a ≡ true) × (b ≡ false)
left-and true true e = absurd (cc)
left-and true false e = (refl, refl)
left-and false b e = absurd (cc)

or-rest : (a b : Bool) → (a || b) ≡ true → a ≡ false → b ≡ true
or-rest true b e none = absurd (cc)
or-rest false b e none = e

less-of : (a b : ℕ) → nat_lt a b ≡ true → a < b
less-of a b e = grind (arith, nat_tests, e)

module _ (scope : Scope) (former : Members) (gone : ℕ) (change : Change) (d : Disk) (held : IsHeldBy scope former d) (fit : IsFitUpdate (members_without gone former) change)
    (shapes : AreShapesFit (planned_newest change.shared former.newest)) where
  abbrev pub Old : Members
  Old = members_without gone former

  abbrev pub Live : ℕ
  Live = live_set Old change

  abbrev pub Lost : ℕ
  Lost = bit_or former.lost gone

  -- no field of the plan is refused, at any event count
  pub fields-at : (events : ℕ) → events < 2 ^ 62 → find (λ f. f.1) (judged_fields (record (planned_newest change.shared former.newest) { events = events }) []) ≡ None
  fields-at events less = fields-fit (record (planned_newest change.shared former.newest) { events = events }) (record {
    valid = record { old = shapes.valid.old; final = shapes.valid.final };
    size = shapes.size;
    final_size = shapes.final_size;
    level = shapes.level;
    unit = shapes.unit;
    position = shapes.position;
    delta = shapes.delta;
    delta_back = shapes.delta_back;
  }) less

  -- ---- the slots

  pub gone-lost : (s : ℕ) → has_slot gone s ≡ true → has_slot Lost s ≡ true
  gone-lost s is = in-both former.lost gone s ∙ ap (λ (b : Bool). has_slot former.lost s || b) is ∙ or_true (has_slot former.lost s)
    where
      or_true : (b : Bool) → (b || true) ≡ true
      or_true true = refl
      or_true false = refl

  pub first-lost : (s : ℕ) → has_slot former.lost s ≡ true → has_slot Lost s ≡ true
  first-lost s is = in-both former.lost gone s ∙ ap (λ (b : Bool). b || has_slot gone s) is

  -- a known slot holds a role or is a spare, by the former members
  known-live : (s : ℕ) → has_slot held.known s ≡ true → (s < 32) × (is_live former.roles former.spares s ≡ true) × (has_slot former.lost s ≡ false)
  known-live s is =
      let parts = left-and (has_slot (live_set former (marking former false)) s) (has_slot former.lost s) (sym (held.live s) ∙ is) in
      let live = both-of (nat_lt s 32) (is_live former.roles former.spares s) (sym (live-of former (marking former false) refl s) ∙ parts.0) in
      (less-of s 32 live.0, live.1, parts.1)

  was-held : (role s : ℕ) → holder (role_without gone (get_or former.roles role Missing)) ≡ Some s → holder (get_or former.roles role Missing) ≡ Some s
  was-held role s is = ap holder (sym (without-holder gone (get_or former.roles role Missing) s is)) ∙ is

  -- each live slot is known
  pub live-known : (s : ℕ) → has_slot Live s ≡ true → has_slot held.known s ≡ true
  live-known s is =
      let parts = both-of (nat_lt s 32) (is_live Old.roles Old.spares s) (sym (live-of Old change fit.none s) ∙ is) in
      ⊎_elim
      (λ holds.
      let role = any-holds s Old.roles holds in
      (role-known scope held.known former held.said role.0 s (was-held role.0 s (ap holder (sym (state-without gone former.roles role.0)) ∙ role.1))).0)
      (λ none. spare-known scope held.known former held.said s (or-rest (list_any (is_held_by s) Old.roles) (has_spare former.spares s) parts.1 none))
      (by_bool (list_any (is_held_by s) Old.roles))

  in-known : (s : ℕ) → is_in_update Old change s ≡ true → has_slot held.known s ≡ true
  in-known s is =
      let live : is_live Old.roles Old.spares s ≡ true = sym (ap (λ (o : Option (ℕ × Sb)). is_live Old.roles Old.spares s || is_added o s) fit.none ∙ or_false (is_live Old.roles Old.spares s)) ∙ is in
      ⊎_elim
      (λ holds.
      let role = any-holds s Old.roles holds in
      (role-known scope held.known former held.said role.0 s (was-held role.0 s (ap holder (sym (state-without gone former.roles role.0)) ∙ role.1))).0)
      (λ none. spare-known scope held.known former held.said s (or-rest (list_any (is_held_by s) Old.roles) (has_spare former.spares s) live none))
      (by_bool (list_any (is_held_by s) Old.roles))
    where
      or_false : (b : Bool) → (b || false) ≡ b
      or_false true = refl
      or_false false = refl

  in-set : (s : ℕ) → is_in_update Old change s ≡ true → has_slot Live s ≡ true
  in-set s is = in-live Old change s (known-live s (in-known s is)).0 is

  pub live-small : (s : ℕ) → has_slot Live s ≡ true → s < 32
  live-small s is = (known-live s (live-known s is)).0

  -- a known slot that isn't gone is live
  known-in : (s : ℕ) → has_slot held.known s ≡ true → has_slot gone s ≡ false → has_slot Live s ≡ true
  known-in s is none =
      let k = known-live s is in
      live-of Old change fit.none s ∙ (λ i. is-below s 32 k.0 i && ((any-without gone s former.roles ∙ ap (λ (b : Bool). not b && list_any (is_held_by s) former.roles) none) i || has_spare former.spares s)) ∙ k.1
    where
      is-below : (a b : ℕ) → a < b → nat_lt a b ≡ true
      is-below a b lt = grind (arith, nat_tests)

  -- ---- what is asked of the change, where more were lost

  module _ (lost left : ℕ) (more : IsWithin Lost lost) (are : AreLeft Live lost left) where
    kept : (s : ℕ) → has_slot lost s ≡ false → has_slot Lost s ≡ false
    kept s none = ⊎_elim (λ is. absurd (let e = more s is in let clash = sym e ∙ none in cc)) (λ isnt. isnt) (by_bool (has_slot Lost s))

    pub not-gone : (s : ℕ) → has_slot lost s ≡ false → has_slot gone s ≡ false
    not-gone s none = ⊎_elim (λ is. absurd (let e = gone-lost s is in let clash = sym e ∙ kept s none in cc)) (λ isnt. isnt) (by_bool (has_slot gone s))

    is-left : (s : ℕ) → has_slot Live s ≡ true → has_slot lost s ≡ false → has_slot left s ≡ true
    is-left s live none = are s ∙ (λ i. live i && not (none i))

    left-parts : (s : ℕ) → has_slot left s ≡ true → (has_slot Live s ≡ true) × (has_slot lost s ≡ false)
    left-parts s is = left-and (has_slot Live s) (has_slot lost s) (sym (are s) ∙ is)

    pub left-known : (s : ℕ) → has_slot left s ≡ true → has_slot held.known s ≡ true
    left-known s is = live-known s (left-parts s is).0

    pub fits-of : (roles : List Role) (n : ℕ)
        → ((s : ℕ) → has_slot lost s ≡ false → planned_role roles (give_of change.gives s) s ≡ planned_role Old.roles (give_of change.gives s) s)
        → former.newest.events + 1 < 2 ^ 62 → IsFitChange held.known lost left (record former { roles = roles; lost = n }) change
    fits-of roles n same room = record {
      role = λ s role none is. is-left s (in-set s (gets-live Old change fit.gives s role (sym (same s none) ∙ is))) none;
      below = λ s role none is. fit.below s role (kept s none) (sym (same s none) ∙ is);
      spare = λ s none is. is-left s (in-set s (spare-live Old change fit.gives s is)) none;
      one_holder = λ s t role none none' is is'. fit.one_holder s t role (kept s none) (kept t none') (sym (same s none) ∙ is) (sym (same t none') ∙ is');
      fields = fields-at (min (former.newest.events + 1) (2 ^ 64 - 1)) (omega (arith, room));
      size = fit.size;
      written = λ s is none. is-left s (known-in s is (not-gone s none)) none;
      devices = λ s sb is own. fit.devices s sb (kept s (left-parts s is).1) own;
      one = λ s t is is' first first'. fit.one s t (kept s (left-parts s is).1) (kept t (left-parts t is').1) first first';
    }

    -- the former roles
    pub same-first : (s : ℕ) → has_slot lost s ≡ false → planned_role former.roles (give_of change.gives s) s ≡ planned_role Old.roles (give_of change.gives s) s
    same-first s none = role-same former gone (give_of change.gives s) s (not-gone s none)

    -- ---- what a round plans

    -- the former members, where the lost slots are lost
    abbrev First : Members
    First = record former { lost = Lost }

    entry-same : (s : ℕ) → entry_for Old change Lost lost s ≡ entry_for First change Lost lost s
    entry-same s = ⊎_elim
        (λ is. (λ i. slot_entry (is i) (more s is i) (planned_role Old.roles (give_of change.gives s) s) (is_planned_spare former.spares change.added (give_of change.gives s) s))
        ∙ sym (λ i. slot_entry (is i) (more s is i) (planned_role former.roles (give_of change.gives s) s) (is_planned_spare former.spares change.added (give_of change.gives s) s)))
        (λ none. ap (λ (role : Option ℕ). slot_entry (has_slot Lost s) (has_slot lost s) role (is_planned_spare former.spares change.added (give_of change.gives s) s))
        (sym (role-same former gone (give_of change.gives s) s (⊎_elim (λ is. absurd (let e = gone-lost s is in let clash = sym e ∙ none in cc)) (λ isnt. isnt) (by_bool (has_slot gone s))))))
        (by_bool (has_slot Lost s))

    tables-same : (t : List ℕ) → with_roles Old change Lost lost t ≡ with_roles First change Lost lost t
    tables-same t = ap (λ (entries : ℕ → Option ℕ). with_entries entries former.own 32 (map faulty_role (take 128 t) ++ drop 128 t)) (λ i s. entry-same s i)

    pub live-first : AreLeft (live_set First change) lost left
    live-first s = ⊎_elim
        (λ is. are s ∙ ap (λ (b : Bool). has_slot Live s && not b) is ∙ nothing (has_slot Live s) (has_slot (live_set First change) s) ∙ sym (ap (λ (b : Bool). has_slot (live_set First change) s && not b) is))
        (λ none. are s ∙ ap (λ (b : Bool). b && not (has_slot lost s)) (
        live-of Old change fit.none s
        ∙ ap (λ (b : Bool). nat_lt s 32 && (b || has_spare former.spares s)) (any-without gone s former.roles ∙ ap (λ (b : Bool). not b && list_any (is_held_by s) former.roles) (not-gone s none))
        ∙ sym (live-of First change fit.none s)))
        (by_bool (has_slot lost s))
      where
        nothing : (a b : Bool) → (a && not true) ≡ (b && not true)
        nothing true true = refl
        nothing true false = refl
        nothing false true = refl
        nothing false false = refl

    pub roles-same : planned_roles First change lost ≡ planned_roles Old change lost
    roles-same = tabulate-same (role_count change.shared) (planned_state former.roles change.gives lost) (planned_state Old.roles change.gives lost)
        (λ role lt. state-same former gone change.gives lost (λ s is. more s (gone-lost s is)) role)

    module _ (newest : Sb) (own : List (Option Sb)) (room : former.newest.events + 1 < 2 ^ 62) (few : role_count (planned_newest change.shared former.newest) ≤ 16)
        (since : (s : ℕ) → has_slot lost s ≡ true → has_slot Lost s ≡ false → has_slot Live s ≡ true)
        (later : IsLater (planned_newest change.shared former.newest) newest) (named : AreNamed Old change Lost lost newest)
        (table : length newest.dev_roles ≡ 384) (written : AreKept newest change.gives former.own left own) where
      planned : IsPlannedNewest First change Lost lost newest
      planned =
          let a = says-shared former change in
          record {
            table = named.0;
            roles = named.1 ∙ tables-same named.0;
            long = table;
            room = ap (λ (z : Sb). z.max_dev) later.same;
            size = ap (λ (z : Sb). z.size) later.same ∙ fit.size;
            says = subst (SaysSame change.shared) (sym later.same) (record {
              level = refl;
              layout = refl;
              size = refl;
              chunksize = refl;
              raid_disks = refl;
              new_level = refl;
              reshape_position = refl;
              delta_disks = refl;
              new_layout = refl;
              new_chunk = refl;
              resync_offset = refl;
              reshaping = a.reshaping;
              backward = a.backward;
            });
            count = ap role_count (sym later.same);
            few = (let same = ap role_count later.same in omega (arith, same, few));
          }

      said-first : AreSaidAsPlanned scope held.known lost left First change newest own
      said-first = planned-said scope held.known former.lost Lost lost left First change newest own d held.updated.held left-known (fits-of former.roles Lost same-first room) live-first
          (λ s isnt is. live-known s (since s is isnt)) planned written (record { roles = held.said.roles; spares = held.said.spares })
          (λ s sb is own_is none so.
          let parts = left-parts s is in
          let fits = fit.spares s sb (kept s parts.1) own_is none so in
          (fits.0, same-first s parts.1 ∙ fits.1))

      -- it says the roles and the spares that the update plans for the members as they are
      pub said-planned : AreSaidAsPlanned scope held.known lost left Old change newest own
      said-planned = record { roles = said-first.roles ∙ roles-same; spares = said-first.spares; starts = said-first.starts }

  -- ---- it may start

  abbrev pub Left : ℕ
  Left = left_set 32 Live Lost

  pub left-is : AreLeft Live Lost Left
  left-is = left-are 32 Live Lost live-small

  pub ready : former.newest.events + 1 < 2 ^ 62 → IsReady scope held.known Left Old change Live d
  ready room = record {
    held = more-held scope held.known former.lost Lost former.newest former.own d first-lost held.updated.held;
    are = left-is;
    within = live-known;
    exact = λ s sb found is own m. held.updated.exact s sb found (left-known Lost Left (λ t lost. lost) left-is s is) own m;
    fits = fits-of Lost Left (λ t lost. lost) left-is Old.roles Lost (λ s none. refl) room;
    fields = fields-at;
  }
