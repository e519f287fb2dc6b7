-- The superblocks that an update in which no slot is lost leaves say the roles and the spares that it plans.
use Rattle.std.proofs.Common.{◌≡◌, ◌⊎◌, inl, inr, ⊎_elim, ℕ, zero, suc, ◌+◌, ◌<◌, ◌≤◌, ◌==◌, Bool, true, false, cond, not, ◌||◌, ◌&&◌, nat_lt, max, List, [], ◌∷◌, length, get_or, Option, Some, None, refl, sym, ◌∙◌, ap, subst, arith}
use Rattle.std.specs.Prelude.{nat_le}
use Rattle.std.specs.Int.{bit_at}
use Rattle.std.specs.List.{list_any}
use Rattle.std.specs.Option.{is_some, option_map_or}
use Rattle.std.proofs.lemmas.Bool.{cases_lt, cases_eq}
use Rattle.std.proofs.lemmas.Bool.Decides.{nat_tests}
use Rattle.std.proofs.lemmas.List.{get_or_past}
use Rattle.std.proofs.lemmas.Nat.Bits.{bit_at-lt}
use Rattle.sb_specs.specs.raid_types_Sectors.{Sector}
use Rattle.sb_specs.specs.raid_types_Shapes.{has_slot}
use Rattle.sb_specs.specs.raid_types_Search.{tabulate}
use Rattle.sb_specs.specs.raid_types_the_Role.{Role}
use Rattle.sb_specs.specs.raid_types_the_Role_TheVariants.{Whole, Recovering, Missing}
use Rattle.sb_specs.proofs.raid_types_Least.{least_below-none, least_below-only}
use Rattle.sb_specs.proofs.raid_types_Tabulated.{length-tabulate, get_or-tabulate}
use Rattle.sb_specs.specs.sb_codec_the_Sb.{Sb}
use Rattle.sb_specs.specs.declared.change.Give.{Give}
use Rattle.sb_specs.specs.declared.change.Give.TheVariants.{Same, Spare}
use Rattle.sb_specs.specs.declared.change.Give.TheVariants as give
use Rattle.sb_specs.specs.declared.change.Change.{Change}
use Rattle.sb_specs.specs.declared.members.Members.{Members}
use Rattle.sb_specs.specs.Reading.{Scope, is_fresh, is_recovering, entry_of, holds_role, state_of, is_spare, lies_within, role_count, holder, holder_from, data_offset_of}
use Rattle.sb_specs.specs.Update.{planned, give_of, own_in, is_added, is_held_by, role_from, planned_role, is_planned_spare, slot_entry, entry_for, with_roles}
use Rattle.sb_specs.specs.Updating.{planned_newest}
use Rattle.sb_specs.specs.Outcome.{is_same, is_planned_holder, held_state, planned_state, planned_roles, planned_spares, is_in_update, live_set}
use Rattle.sb_specs.specs.Reads.{SaysSame, held_in, spare_in, has_spare}
use Rattle.sb_specs.specs.Held.{AreHeld, said_by, known_of}
use Rattle.sb_specs.specs.Stages.{AreLeft, AreKept}
use Rattle.sb_specs.specs.Rounds.{Round, IsReady}
use Rattle.sb_specs.specs.Crash.{IsWithin, AreHeldAsPlanned}
use Rattle.sb_specs.specs.Plans.{next_newest, IsFitChange}
use Rattle.sb_read_laws.specs.Said.{AreSaid, AreSparesFit, AreSaidAsPlanned, MembersStaySaid, MembersStaySaidInRounds}
use Rattle.sb_specs.proofs.ReadLists.{by_bool, spares-at}
use Rattle.sb_specs.proofs.ReadAlike.{count-same, tabulate-same}
use Rattle.sb_specs.proofs.HeldReads.{known_at}
use Rattle.sb_specs.proofs.UpdateReads.{some-or-all, fresh_less}
use Rattle.sb_specs.proofs.PlannedSb.{IsPlannedOf, planned-of, set_bit, recovering-same, recovering-spare, recovering-none}
use Rattle.sb_read_laws.proofs.PlanFits.{role-set, plan-fits, length-any}
use Rattle.sb_specs.proofs.ValidFields.{valid-shapes, few-roles}
use Rattle.sb_specs.proofs.SlotSets.{has-set_of, some_role}
use Rattle.sb_read_laws.proofs.SaidLists.{holder-none, holder-found, state-here, role-holder, spares-are}

-- ---- tests

is_below : (a b : ℕ) → a < b → nat_lt a b ≡ true
is_below a b h = grind (arith, nat_tests)

is_less : (a b : ℕ) → nat_lt a b ≡ true → a < b
is_less a b h = grind (arith, nat_tests)

and_true : (a b : Bool) → (a && b) ≡ true → (a ≡ true) × (b ≡ true)
and_true true b h = (refl, h)
and_true false b h = absurd (cc)

all_five : (a b c d e : Bool) → (a && b && c && d && e) ≡ true → (a ≡ true) × (b ≡ true) × (c ≡ true) × (d ≡ true) × (e ≡ true)
all_five true true true true true h = (refl, refl, refl, refl, refl)
all_five true true true true false h = absurd (cc)
all_five true true true false e h = absurd (cc)
all_five true true false d e h = absurd (cc)
all_five true false c d e h = absurd (cc)
all_five false b c d e h = absurd (cc)

flip : (b : Bool) → not b ≡ true → b ≡ false
flip true e = absurd (cc)
flip false e = refl

equal : (a b : ℕ) → (a == b) ≡ true → a ≡ b
equal a b h = grind (arith, nat_tests)

self : (a : ℕ) → (a == a) ≡ true
self a = grind (arith, nat_tests)

same_is : (role : ℕ) (found : Option ℕ) → is_same role found ≡ true → found ≡ Some role
same_is role None is = absurd (cc)
same_is role (Some other) is = ap (λ (n : ℕ). Some n) (equal other role is)

some_if : (b : Bool) (state : Role) (found : Role) → cond b (Some state) None ≡ Some found → (b ≡ true) × (state ≡ found)
some_if true state found is = (refl, let it : state ≡ found = cc in it)
some_if false state found is = absurd (cc)

-- an entry is that of a slot that isn't lost, or of one that was lost since
entry-kept : (before lost : Bool) (role : Option ℕ) (spare : Bool) (e : ℕ) → slot_entry before lost role spare ≡ Some e
    → ((lost ≡ false) × ((role ≡ Some e) ⊎ ((e ≡ 0xffff) × (spare ≡ true)))) ⊎ ((before ≡ false) × (lost ≡ true))
entry-kept true true role spare e is = absurd (cc)
entry-kept false true role spare e is = inr (refl, refl)
entry-kept true false (Some role) spare e is = inl (refl, inl is)
entry-kept false false (Some role) spare e is = inl (refl, inl is)
entry-kept true false None true e is = inl (refl, inr ((let it : 0xffff ≡ e = cc in sym it), refl))
entry-kept false false None true e is = inl (refl, inr ((let it : 0xffff ≡ e = cc in sym it), refl))
entry-kept true false None false e is = absurd (cc)
entry-kept false false None false e is = absurd (cc)

entry-of-role : (before : Bool) (role : ℕ) (spare : Bool) → slot_entry before false (Some role) spare ≡ Some role
entry-of-role true role spare = refl
entry-of-role false role spare = refl

entry-of-spare : (before : Bool) → slot_entry before false None true ≡ Some 0xffff
entry-of-spare true = refl
entry-of-spare false = refl

recovering-set : (N own : Sb) (role offset : ℕ) → is_recovering (planned N (give.Role role (Some offset)) own) ≡ true
recovering-set N own role offset = ap (λ n. n == 1) (set_bit _ 1 1 refl ∙ most (bit_at _ 1) (bit_at-lt _ 1))
  where
    most : (a : ℕ) → a < 2 → max a 1 ≡ 1
    most a h = omega arith

-- the states that a list has come from roles below its length
held-below : (roles : List Role) (role slot : ℕ) → holder (get_or roles role Missing) ≡ Some slot → role < length roles
held-below [] role slot is = absurd (cc)
held-below (state ∷ roles) zero slot is = omega arith
held-below (state ∷ roles) (suc role) slot is = let rest = held-below roles role slot is in omega (arith, rest)

-- what the known superblocks have, by slot
known-is : (n known : ℕ) (own : List (Option Sb)) (s : ℕ) → s < n → get_or (tabulate n (known_at known own)) s None ≡ known_at known own s
known-is n known own s h = get_or-tabulate n (known_at known own) s None h

-- a newest superblock that was planned, with the entries of a change
pub record IsPlannedNewest (members : Members) (change : Change) (before lost : ℕ) (newest : Sb) : Type 0 where
  pub table : List ℕ
  pub roles : newest.dev_roles ≡ with_roles members change before lost table
  pub long : length newest.dev_roles ≡ 384
  pub room : newest.max_dev ≡ members.newest.max_dev
  pub size : newest.size ≡ members.newest.size
  pub says : SaysSame change.shared newest
  pub count : role_count (planned_newest change.shared members.newest) ≡ role_count newest
  pub few : role_count newest ≤ 16

module _ (scope : Scope) (known lost0 before lost left : ℕ) (members : Members) (change : Change) (N : Sb) (own' : List (Option Sb)) (d : ℕ → ℕ → List Sector)
    (held : AreHeld scope known lost0 members.newest members.own d) (within : IsWithin left known) (fits : IsFitChange known lost left members change)
    (live : AreLeft (live_set members change) lost left) (since : (s : ℕ) → has_slot before s ≡ false → has_slot lost s ≡ true → has_slot known s ≡ true)
    (plan : IsPlannedNewest members change before lost N) (kept : AreKept N change.gives members.own left own')
    (said : AreSaid scope known members) (spares : AreSparesFit left members change) where
  abbrev given : ℕ → Give
  given s = give_of change.gives s

  abbrev role : ℕ → Option ℕ
  role s = planned_role members.roles (given s) s

  abbrev spare : ℕ → Bool
  spare s = is_planned_spare members.spares change.added (given s) s

  abbrev was : ℕ → Option Sb
  was = known_at known members.own

  -- ---- the slots that are left

  lives : (s : ℕ) → has_slot left s ≡ true → (s < 32) × (is_in_update members change s ≡ true) × (has_slot lost s ≡ false)
  lives s is =
      let both = and_true (has_slot (live_set members change) s) (not (has_slot lost s)) (sym (live s) ∙ is) in
      let parts = and_true (nat_lt s 32) (is_in_update members change s) (sym (has-set_of 32 (is_in_update members change) s) ∙ both.0) in
      (is_less s 32 parts.0, parts.1, flip (has_slot lost s) both.1)

  there : (s : ℕ) → has_slot left s ≡ true → s < scope.sizes.slots
  there s is = (held.each s (within s is)).there

  few : (r : ℕ) → r < role_count N → r < 16
  few r h = omega (arith, h, plan.few)

  -- each is planned a role, or to be a spare
  part : (s : ℕ) → has_slot left s ≡ true → ((r : ℕ) × (role s ≡ Some r)) ⊎ ((role s ≡ None) × (spare s ≡ true))
  part s is = by (given s) refl (lives s is).1
    where
      of_role : (found : Option ℕ) → role_from s 0 members.roles ≡ found → is_in_update members change s ≡ true
          → ((r : ℕ) × (role_from s 0 members.roles ≡ Some r)) ⊎ ((role_from s 0 members.roles ≡ None) × ((list_any (λ (spare : ℕ). spare == s) members.spares || is_added change.added s) ≡ true))
      of_role (Some r) found lives = inl (r, found)
      of_role None found lives =
          let none : list_any (is_held_by s) members.roles ≡ false = sym (some_role s 0 members.roles) ∙ ap is_some found in
          inr (found, drop_first (list_any (is_held_by s) members.roles) (list_any (λ (spare : ℕ). spare == s) members.spares) (is_added change.added s) none lives)
        where
          drop_first : (a b c : Bool) → a ≡ false → ((a || b) || c) ≡ true → (b || c) ≡ true
          drop_first true b c e h = absurd (cc)
          drop_first false b c e h = h

      by : (g : Give) → given s ≡ g → is_in_update members change s ≡ true
          → ((r : ℕ) × (planned_role members.roles g s ≡ Some r)) ⊎ ((planned_role members.roles g s ≡ None) × (is_planned_spare members.spares change.added g s ≡ true))
      by Same is lives = of_role (role_from s 0 members.roles) refl lives
      by (give.Role r recovery) is lives = inl (r, refl)
      by Spare is lives = inr (refl, refl)

  -- ---- the entry of a device that is left

  entered-known : (t e : ℕ) → entry_for members change before lost t ≡ Some e → has_slot known t ≡ true
  entered-known t e is = ⊎_elim
      (λ parts. ⊎_elim (λ r. within t (fits.role t e parts.0 r)) (λ s. within t (fits.spare t parts.0 s.1)) parts.1)
      (λ gone. since t gone.0 gone.1)
      (entry-kept (has_slot before t) (has_slot lost t) (role t) (spare t) e is)

  one-device : (s t : ℕ) (sb a : Sb) → has_slot known s ≡ true → has_slot known t ≡ true → own_in members.own s ≡ Some sb → own_in members.own t ≡ Some a → a.dev_number ≡ sb.dev_number → t ≡ s
  one-device s t sb a is is' own_is own_is' number = elim (cases_eq t s) [
    | inl same ↦ same
    | inr apart ↦
        let k = held.each s is in
        let k' = held.each t is' in
        let same : k.sb ≡ sb = (let both : Some k.sb ≡ Some sb = sym k.own ∙ own_is in cc) in
        let same' : k'.sb ≡ a = (let both : Some k'.sb ≡ Some a = sym k'.own ∙ own_is' in cc) in
        absurd (held.apart t s k'.sb k.sb apart (inl (is', k'.own)) (inl (is, k.own)) k'.fresh k.fresh
        (ap (λ (z : Sb). z.dev_number) same' ∙ number ∙ sym (ap (λ (z : Sb). z.dev_number) same)))
  ]

  table-long : 128 ≤ length plan.table
  table-long = omega (arith, ap length plan.roles, length-any members change before lost plan.table, plan.long)

  entry-is-planned : (s e : ℕ) (is : has_slot left s ≡ true) → entry_for members change before lost s ≡ Some e → entry_of N (held.each s (within s is)).sb.dev_number ≡ e
  entry-is-planned s e is entered =
      let k = held.each s (within s is) in
      (λ i. cond (nat_lt k.sb.dev_number (plan.room i)) (get_or (plan.roles i) k.sb.dev_number 0xfffe) 0xfffe)
      ∙ ap (λ b. cond b (get_or (with_roles members change before lost plan.table) k.sb.dev_number 0xfffe) 0xfffe)
      (is_below k.sb.dev_number members.newest.max_dev (omega (arith, k.number, held.sound.room)))
      ∙ role-set members change before lost plan.table table-long s e 0xfffe k.sb (lives s is).0 entered k.own k.number
      (λ t other a entered' own_is number.
      let same : t ≡ s = one-device s t k.sb a (within s is) (entered-known t other entered') k.own own_is number in
      let both : Some other ≡ Some e = sym entered' ∙ ap (entry_for members change before lost) same ∙ entered in cc)

  -- ---- what a slot has

  abbrev new : (s : ℕ) → has_slot left s ≡ true → Sb
  new s is = record (planned N (given s) (held.each s (within s is)).sb) { sb_csum = (kept s (held.each s (within s is)).sb is (held.each s (within s is)).own).0 }

  now-is : (s : ℕ) (is : has_slot left s ≡ true) → known_at left own' s ≡ Some (new s is)
  now-is s is = ap (λ b. cond b (own_in own' s) None) is ∙ (kept s (held.each s (within s is)).sb is (held.each s (within s is)).own).1

  was-is : (s : ℕ) (is : has_slot left s ≡ true) → known_at known members.own s ≡ Some (held.each s (within s is)).sb
  was-is s is = ap (λ b. cond b (own_in members.own s) None) (within s is) ∙ (held.each s (within s is)).own

  now-none : (s : ℕ) → has_slot left s ≡ false → known_at left own' s ≡ None
  now-none s none = ap (λ b. cond b (own_in own' s) None) none

  of : (s : ℕ) (is : has_slot left s ≡ true) → IsPlannedOf N (held.each s (within s is)).sb (planned N (given s) (held.each s (within s is)).sb)
  of s is = planned-of N (held.each s (within s is)).sb (given s)

  new-fresh : (s : ℕ) (is : has_slot left s ≡ true) → is_fresh N (new s is) ≡ true
  new-fresh s is = fresh_less N.events (new s is).events (omega (arith, (of s is).events))

  new-entry : (s e : ℕ) (is : has_slot left s ≡ true) → entry_for members change before lost s ≡ Some e → entry_of N (new s is).dev_number ≡ e
  new-entry s e is entered = ap (entry_of N) (of s is).number ∙ entry-is-planned s e is entered

  role-entry : (s r : ℕ) → has_slot left s ≡ true → role s ≡ Some r → entry_for members change before lost s ≡ Some r
  role-entry s r is has = (λ i. slot_entry (has_slot before s) ((lives s is).2 i) (has i) (spare s)) ∙ entry-of-role (has_slot before s) r (spare s)

  spare-entry : (s : ℕ) → has_slot left s ≡ true → role s ≡ None → spare s ≡ true → entry_for members change before lost s ≡ Some 0xffff
  spare-entry s is none so = (λ i. slot_entry (has_slot before s) ((lives s is).2 i) (none i) (so i)) ∙ entry-of-spare (has_slot before s)

  held-now : (s r e : ℕ) (is : has_slot left s ≡ true) → entry_for members change before lost s ≡ Some e
      → held_in N r s (known_at left own' s) ≡ cond (e == r) (Some (state_of s (new s is))) None
  held-now s r e is entered = ap (held_in N r s) (now-is s is) ∙ (λ i. cond (new-fresh s is i && (new-entry s e is entered i == r)) (Some (state_of s (new s is))) None)

  -- ---- the former states

  was-role : (s r : ℕ) (is : has_slot left s ≡ true) → holder (get_or members.roles r Missing) ≡ Some s
      → (holds_role members.newest r (held.each s (within s is)).sb ≡ true) × (state_of s (held.each s (within s is)).sb ≡ get_or members.roles r Missing) × (r < role_count members.newest)
  was-role s r is at =
      let below : r < role_count members.newest = omega (
        arith,
        held-below members.roles r s at,
        ap length said.roles,
        length-tabulate (role_count members.newest) (λ role. holder_from members.newest role 0 (known_of scope known members.own)),
      ) in
      let state : get_or members.roles r Missing ≡ holder_from members.newest r 0 (known_of scope known members.own) =
      ap (λ (l : List Role). get_or l r Missing) said.roles ∙ get_or-tabulate (role_count members.newest) (λ role. holder_from members.newest role 0 (known_of scope known members.own)) r Missing below in
      let found : held_in members.newest r s (get_or (known_of scope known members.own) s None) ≡ Some (holder_from members.newest r 0 (known_of scope known members.own)) =
      state-here members.newest r (known_of scope known members.own) s (ap holder (sym state) ∙ at) in
      let own : get_or (known_of scope known members.own) s None ≡ Some (held.each s (within s is)).sb = known-is scope.sizes.slots known members.own s (there s is) ∙ was-is s is in
      let parts = some_if (holds_role members.newest r (held.each s (within s is)).sb) (state_of s (held.each s (within s is)).sb) (holder_from members.newest r 0 (known_of scope known members.own))
      (sym (ap (held_in members.newest r s) own) ∙ found) in
      (parts.0, parts.1 ∙ sym state, below)

  state-is : (s r : ℕ) (is : has_slot left s ≡ true) (g : Give) → planned_role members.roles g s ≡ Some r
      → held_state (get_or members.roles r Missing) g s ≡ state_of s (planned N g (held.each s (within s is)).sb)
  state-is s r is Same has =
      sym (was-role s r is (role-holder s members.roles r has)).1
      ∙ sym (ap (λ b. cond b (Recovering s) (Whole s)) (recovering-same N (held.each s (within s is)).sb))
  state-is s r is (give.Role role None) has = sym (ap (λ b. cond b (Recovering s) (Whole s)) (recovering-none N (held.each s (within s is)).sb role))
  state-is s r is (give.Role role (Some offset)) has = sym (ap (λ b. cond b (Recovering s) (Whole s)) (recovering-set N (held.each s (within s is)).sb role offset))
  state-is s r is Spare has = absurd (cc)

  -- ---- the roles

  planned-left : (r s : ℕ) → is_planned_holder members.roles change.gives lost r s ≡ true → (has_slot left s ≡ true) × (role s ≡ Some r)
  planned-left r s so =
      let parts = and_true (not (has_slot lost s)) (is_same r (role s)) so in
      let has = same_is r (role s) parts.1 in
      (fits.role s r (flip (has_slot lost s) parts.0) has, has)

  held-planned : (r s : ℕ) → is_planned_holder members.roles change.gives lost r s ≡ true → held_in N r s (known_at left own' s) ≡ Some (held_state (get_or members.roles r Missing) (given s) s)
  held-planned r s so =
      let p = planned-left r s so in
      held-now s r r p.0 (role-entry s r p.0 p.1) ∙ ap (λ b. cond b (Some (state_of s (new s p.0))) None) (self r)
      ∙ ap (λ (x : Role). Some x) (sym (state-is s r p.0 (given s) p.1))

  pub held-other : (r s : ℕ) → r < 16 → is_planned_holder members.roles change.gives lost r s ≡ false → held_in N r s (known_at left own' s) ≡ None
  held-other r s small isnt = ⊎_elim
      (λ is. ⊎_elim
      (λ found.
      let differs : (found.0 == r) ≡ false = sym (λ i. not ((lives s is).2 i) && is_same r (found.1 i)) ∙ isnt in
      held-now s r found.0 is (role-entry s found.0 is found.1) ∙ ap (λ b. cond b (Some (state_of s (new s is))) None) differs)
      (λ none.
      held-now s r 0xffff is (spare-entry s is none.0 none.1) ∙ ap (λ b. cond b (Some (state_of s (new s is))) None) (far r small))
      (part s is))
      (λ none. ap (held_in N r s) (now-none s none)) (by_bool (has_slot left s))
    where
      far : (r : ℕ) → r < 16 → (0xffff == r) ≡ false
      far r h = grind (arith, nat_tests)

  -- in the list of the known ones
  list-now : (r s : ℕ) (found : Option Role) → held_in N r s (known_at left own' s) ≡ found → (has_slot left s ≡ false → found ≡ None)
      → held_in N r s (get_or (known_of scope left own') s None) ≡ found
  list-now r s found is none = elim (cases_lt s scope.sizes.slots) [
    | inl below ↦ ap (held_in N r s) (known-is scope.sizes.slots left own' s below) ∙ is
    | inr past ↦
        let nothing : get_or (known_of scope left own') s None ≡ None =
        get_or_past (tabulate scope.sizes.slots (known_at left own')) s None (omega (arith, length-tabulate scope.sizes.slots (known_at left own'), past)) in
        ap (held_in N r s) nothing ∙ sym (none (⊎_elim (λ so. absurd (omega (arith, there s so, past))) (λ isnt. isnt) (by_bool (has_slot left s))))
  ]

  role-is : (r : ℕ) → r < role_count N → holder_from N r 0 (known_of scope left own') ≡ planned_state members.roles change.gives lost r
  role-is r h = ⊎_elim
      (λ found.
      let s : ℕ = found.0 in
      let p = planned-left r s found.2 in
      let only : (j : ℕ) → is_planned_holder members.roles change.gives lost r j ≡ true → j ≡ s =
      (λ j so. let q = planned-left r j so in fits.one_holder j s r (lives j q.0).2 (lives s p.0).2 q.1 p.1) in
      holder-found N r 0 (known_of scope left own') s (held_state (get_or members.roles r Missing) (given s) s)
      (omega (arith, there s p.0, length-tabulate scope.sizes.slots (known_at left own')))
      (let here : s ≡ 0 + s = omega arith in subst (λ (j : ℕ). held_in N r j (get_or (known_of scope left own') s None) ≡ Some (held_state (get_or members.roles r Missing) (given s) s)) here
      (list-now r s (Some (held_state (get_or members.roles r Missing) (given s) s)) (held-planned r s found.2) (λ isnt. absurd (let both = sym isnt ∙ p.0 in cc))))
      (λ j below. none-at j (other j (λ so. let same = only j so in omega (arith, same, below))))
      ∙ sym (ap (λ (o : Option ℕ). option_map_or (λ s. held_state (get_or members.roles r Missing) (given s) s) o Missing)
      (least_below-only 32 (is_planned_holder members.roles change.gives lost r) s found.1 found.2 (λ j below so. only j so))))
      (λ none.
      holder-none N r 0 (known_of scope left own') (λ k. none-at k (⊎_elim (λ so. absurd (let p = planned-left r k so in let isnt = none k (lives k p.0).0 in let both = sym isnt ∙ so in cc)) (λ isnt. isnt) (by_bool (is_planned_holder members.roles change.gives lost r k))))
      ∙ sym (ap (λ (o : Option ℕ). option_map_or (λ s. held_state (get_or members.roles r Missing) (given s) s) o Missing)
      (least_below-none 32 (is_planned_holder members.roles change.gives lost r) none)))
      (some-or-all 32 (λ s. is_planned_holder members.roles change.gives lost r s ≡ false) (λ s. is_planned_holder members.roles change.gives lost r s ≡ true)
      (λ s below. ⊎_elim (λ so. inr so) (λ isnt. inl isnt) (by_bool (is_planned_holder members.roles change.gives lost r s))))
    where
      other : (j : ℕ) → (is_planned_holder members.roles change.gives lost r j ≡ true → ⊥) → is_planned_holder members.roles change.gives lost r j ≡ false
      other j never = ⊎_elim (λ so. absurd (never so)) (λ isnt. isnt) (by_bool (is_planned_holder members.roles change.gives lost r j))

      none-at : (j : ℕ) → is_planned_holder members.roles change.gives lost r j ≡ false → held_in N r (0 + j) (get_or (known_of scope left own') j None) ≡ None
      none-at j isnt = let here : j ≡ 0 + j = omega arith in subst (λ (m : ℕ). held_in N r m (get_or (known_of scope left own') j None) ≡ None) here
          (list-now r j None (held-other r j (few r h) isnt) (λ none. refl))

  roles-are : (said_by scope left own' N).roles ≡ planned_roles members change lost
  roles-are =
      tabulate-same (role_count N) (λ role. holder_from N role 0 (known_of scope left own')) (planned_state members.roles change.gives lost) (λ k h. role-is k h)
      ∙ ap (λ (n : ℕ). tabulate n (planned_state members.roles change.gives lost)) (sym (count-same change.shared N plan.says))

  -- ---- the spares

  was-spare : (s : ℕ) (is : has_slot left s ≡ true) → has_spare members.spares s ≡ true → is_spare members.newest (scope.sizes.sectors s) (held.each s (within s is)).sb ≡ true
  was-spare s is so =
      let here : s ≡ 0 + s = omega arith in
      sym (ap (λ (l : List ℕ). has_spare l s) said.spares ∙ spares-at members.newest scope.sizes.sectors 0 s s (known_of scope known members.own) here
      ∙ ap (spare_in members.newest (scope.sizes.sectors s)) (known-is scope.sizes.slots known members.own s (there s is) ∙ was-is s is))
      ∙ so

  fits-spare : (s : ℕ) (is : has_slot left s ≡ true) → spare s ≡ true → (is_recovering (held.each s (within s is)).sb ≡ false) × (role s ≡ None)
  fits-spare s is so = ⊎_elim (λ was. former was (given s) refl) (λ new. spares s (held.each s (within s is)).sb is (held.each s (within s is)).own new so) (by_bool (has_spare members.spares s))
    where
      no_role : (found : Option ℕ) → role_from s 0 members.roles ≡ found → (entry_of members.newest (held.each s (within s is)).sb.dev_number == 0xffff) ≡ true → role_from s 0 members.roles ≡ None
      no_role None found at = found
      no_role (Some r) found at =
          let w = was-role s r is (role-holder s members.roles r found) in
          let holds = and_true (is_fresh members.newest (held.each s (within s is)).sb) (entry_of members.newest (held.each s (within s is)).sb.dev_number == r) w.0 in
          let small = few-roles members.newest (valid-shapes members.newest [] held.sound.fields) in
          absurd (omega (arith, equal (entry_of members.newest (held.each s (within s is)).sb.dev_number) r holds.1, equal (entry_of members.newest (held.each s (within s is)).sb.dev_number) 0xffff at, w.2, small))

      former : has_spare members.spares s ≡ true → (g : Give) → given s ≡ g → (is_recovering (held.each s (within s is)).sb ≡ false) × (role s ≡ None)
      former had g is_g =
          let p = all_five (is_fresh members.newest (held.each s (within s is)).sb) (not (is_recovering (held.each s (within s is)).sb)) (nat_lt (held.each s (within s is)).sb.dev_number 128) (entry_of members.newest (held.each s (within s is)).sb.dev_number == 0xffff)
          (lies_within members.newest (scope.sizes.sectors s) (held.each s (within s is)).sb) (was-spare s is had) in
          (flip (is_recovering (held.each s (within s is)).sb) p.1, ap (λ (g : Give). planned_role members.roles g s) is_g ∙ by g p.3 (sym (ap (λ (g : Give). is_planned_spare members.spares change.added g s) is_g) ∙ so))
        where
          by : (g : Give) → (entry_of members.newest (held.each s (within s is)).sb.dev_number == 0xffff) ≡ true → is_planned_spare members.spares change.added g s ≡ true → planned_role members.roles g s ≡ None
          by Same at so = no_role (role_from s 0 members.roles) refl at
          by (give.Role r recovery) at so = absurd (cc)
          by Spare at so = refl

  still-whole : (s : ℕ) (is : has_slot left s ≡ true) (g : Give) → is_planned_spare members.spares change.added g s ≡ true → is_recovering (held.each s (within s is)).sb ≡ false
      → is_recovering (planned N g (held.each s (within s is)).sb) ≡ false
  still-whole s is Same so isnt = recovering-same N (held.each s (within s is)).sb ∙ isnt
  still-whole s is (give.Role r recovery) so isnt = absurd (cc)
  still-whole s is Spare so isnt = recovering-spare N (held.each s (within s is)).sb ∙ isnt

  lies-new : (s : ℕ) (is : has_slot left s ≡ true) → lies_within N (scope.sizes.sectors s) (new s is) ≡ true
  lies-new s is = (λ i. nat_le 10 ((of s is).start i) && nat_le ((of s is).start i + plan.size i) (scope.sizes.sectors s)) ∙ (held.each s (within s is)).lies

  number-new : (s : ℕ) (is : has_slot left s ≡ true) → nat_lt (new s is).dev_number 128 ≡ true
  number-new s is = ap (λ (n : ℕ). nat_lt n 128) (of s is).number ∙ is_below (held.each s (within s is)).sb.dev_number 128 (held.each s (within s is)).number

  spare-left : (s : ℕ) (is : has_slot left s ≡ true) → is_spare N (scope.sizes.sectors s) (new s is) ≡ (not (has_slot lost s) && spare s)
  spare-left s is = ⊎_elim
      (λ found.
      let isnt : spare s ≡ false = ⊎_elim (λ so. absurd (let none = (fits-spare s is so).1 in let both = sym none ∙ found.1 in cc)) (λ isnt. isnt) (by_bool (spare s)) in
      let small : found.0 < 16 = few found.0 (let below = fits.below s found.0 (lives s is).2 found.1 in omega (arith, below, plan.count)) in
      (λ i. is_fresh N (new s is) && not (is_recovering (new s is)) && nat_lt (new s is).dev_number 128 && (new-entry s found.0 is (role-entry s found.0 is found.1) i == 0xffff) && lies_within N (scope.sizes.sectors s) (new s is))
      ∙ never (is_fresh N (new s is)) (is_recovering (new s is)) (nat_lt (new s is).dev_number 128) (found.0 == 0xffff) (lies_within N (scope.sizes.sectors s) (new s is)) (near found.0 small)
      ∙ sym (λ i. not ((lives s is).2 i) && isnt i))
      (λ none.
      let whole : is_recovering (new s is) ≡ false = still-whole s is (given s) none.1 (fits-spare s is none.1).0 in
      (λ i. new-fresh s is i && not (whole i) && number-new s is i && (new-entry s 0xffff is (spare-entry s is none.0 none.1) i == 0xffff) && lies-new s is i)
      ∙ sym (λ i. not ((lives s is).2 i) && none.1 i))
      (part s is)
    where
      near : (r : ℕ) → r < 16 → (r == 0xffff) ≡ false
      near r h = grind (arith, nat_tests)

      never : (a b c d e : Bool) → d ≡ false → (a && not b && c && d && e) ≡ false
      never true true c d e is = refl
      never true false false d e is = refl
      never true false true true e is = absurd (cc)
      never true false true false e is = refl
      never false b c d e is = refl

  not-planned : (s : ℕ) → has_slot left s ≡ false → (not (has_slot lost s) && spare s) ≡ false
  not-planned s none = ⊎_elim
      (λ so. let parts = and_true (not (has_slot lost s)) (spare s) so in absurd (let is = fits.spare s (flip (has_slot lost s) parts.0) parts.1 in let both = sym none ∙ is in cc))
      (λ isnt. isnt) (by_bool (not (has_slot lost s) && spare s))

  spare-at : (s : ℕ) → s < scope.sizes.slots → spare_in N (scope.sizes.sectors s) (get_or (known_of scope left own') s None) ≡ (not (has_slot lost s) && spare s)
  spare-at s below =
      ap (spare_in N (scope.sizes.sectors s)) (known-is scope.sizes.slots left own' s below)
      ∙ ⊎_elim (λ is. ap (spare_in N (scope.sizes.sectors s)) (now-is s is) ∙ spare-left s is)
      (λ none. ap (spare_in N (scope.sizes.sectors s)) (now-none s none) ∙ sym (not-planned s none)) (by_bool (has_slot left s))

  spares-planned : (said_by scope left own' N).spares ≡ planned_spares members change lost
  spares-planned = spares-are N scope.sizes.sectors (λ s. not (has_slot lost s) && spare s) 32 (known_of scope left own')
      (λ k lt. spare-at k (omega (arith, lt, length-tabulate scope.sizes.slots (known_at left own'))))
      (λ s past. past-left s (λ is. omega (arith, there s is, past, length-tabulate scope.sizes.slots (known_at left own'))))
      (λ s past. past-left s (λ is. omega (arith, (lives s is).0, past)))
    where
      past-left : (s : ℕ) → (has_slot left s ≡ true → ⊥) → (not (has_slot lost s) && spare s) ≡ false
      past-left s never = ⊎_elim (λ is. absurd (never is)) (λ none. not-planned s none) (by_bool (has_slot left s))

  start-kept : (s : ℕ) → has_slot left s ≡ true → data_offset_of (said_by scope left own' N) s ≡ data_offset_of (said_by scope known members.own members.newest) s
  start-kept s is =
      ap (λ (o : Option Sb). option_map_or (λ sb. sb.data_offset) o 0) (known-is scope.sizes.slots left own' s (there s is) ∙ now-is s is)
      ∙ (of s is).start
      ∙ sym (ap (λ (o : Option Sb). option_map_or (λ sb. sb.data_offset) o 0) (known-is scope.sizes.slots known members.own s (there s is) ∙ was-is s is))

  pub planned-said : AreSaidAsPlanned scope known lost left members change N own'
  planned-said = record { roles = roles-are; spares = spares-planned; starts = start-kept }

-- what is planned says what the change does
says-shared : (members : Members) (change : Change) → SaysSame change.shared (planned_newest change.shared members.newest)
says-shared members change =
    let a = (planned-of change.shared members.newest Same).array in
    record {
      level = refl;
      layout = refl;
      size = refl;
      chunksize = refl;
      raid_disks = refl;
      new_level = refl;
      reshape_position = refl;
      delta_disks = refl;
      new_layout = refl;
      new_chunk = refl;
      resync_offset = refl;
      reshaping = a.reshaping;
      backward = a.backward;
    }

-- where no slot is lost
pub stay-said : MembersStaySaid
stay-said scope known lost left members change own' d held within fits live kept said spares =
    let fit = plan-fits scope known lost left lost members change d held within fits in
    let a = says-shared members change in
    planned-said scope known lost lost lost left members change (next_newest members change lost lost) own' d held within fits live
    (λ s isnt is. absurd (let both = sym isnt ∙ is in cc))
    (record {
      table = members.newest.dev_roles;
      roles = refl;
      long = fit.table;
      room = refl;
      size = fit.size;
      says = record {
        level = refl;
        layout = refl;
        size = refl;
        chunksize = refl;
        raid_disks = refl;
        new_level = refl;
        reshape_position = refl;
        delta_disks = refl;
        new_layout = refl;
        new_chunk = refl;
        resync_offset = refl;
        reshaping = a.reshaping;
        backward = a.backward;
      };
      count = refl;
      few = few-roles (next_newest members change lost lost) (valid-shapes (next_newest members change lost lost) [] fit.sound.fields);
    }) kept said spares

-- where slots are lost
module _ (scope : Scope) (known left before : ℕ) (members : Members) (change : Change) (d : ℕ → ℕ → List Sector) (last : Round) (ready : IsReady scope known left members change (live_set members change) d)
    (end : AreHeldAsPlanned scope members change before (live_set members change) last) where
  kept-first : (s : ℕ) → has_slot end.named s ≡ false → has_slot members.lost s ≡ false
  kept-first s none = ⊎_elim (λ is. absurd (let both = sym (end.more s is) ∙ none in cc)) (λ is. is) (by_bool (has_slot members.lost s))

  of-first : (s : ℕ) → has_slot end.named s ≡ false → has_slot left s ≡ true → has_slot end.known s ≡ true
  of-first s none is =
      let parts = and_true (has_slot (live_set members change) s) (not (has_slot members.lost s)) (sym (ready.are s) ∙ is) in
      end.are s ∙ (λ i. parts.0 i && not (none i))

  still-left : (s : ℕ) → has_slot end.known s ≡ true → (has_slot left s ≡ true) × (has_slot (live_set members change) s ≡ true)
  still-left s is =
      let parts = and_true (has_slot (live_set members change) s) (not (has_slot end.named s)) (sym (end.are s) ∙ is) in
      (ready.are s ∙ (λ i. parts.0 i && not (kept-first s (flip (has_slot end.named s) parts.1) i)), parts.0)

  fits-end : IsFitChange known end.named end.known members change
  fits-end = record {
    role = λ s role none is. of-first s none (ready.fits.role s role (kept-first s none) is);
    below = λ s role none is. ready.fits.below s role (kept-first s none) is;
    spare = λ s none is. of-first s none (ready.fits.spare s (kept-first s none) is);
    one_holder = λ s t role none none' is is'. ready.fits.one_holder s t role (kept-first s none) (kept-first t none') is is';
    fields = ready.fits.fields;
    size = ready.fits.size;
    written = λ s is none. of-first s none (ready.fits.written s is (kept-first s none));
    devices = λ s sb is own. ready.fits.devices s sb (still-left s is).0 own;
    one = λ s t is is' first first'. ready.fits.one s t (still-left s is).0 (still-left t is').0 first first';
  }

  planned-end : IsPlannedNewest members change before end.named last.newest
  planned-end =
      let a = says-shared members change in
      record {
        table = end.plan.0;
        roles = end.plan.1;
        long = end.held.table;
        room = ap (λ (z : Sb). z.max_dev) end.later.same;
        size = ap (λ (z : Sb). z.size) end.later.same ∙ ready.fits.size;
        says = subst (SaysSame change.shared) (sym end.later.same) (record {
          level = refl;
          layout = refl;
          size = refl;
          chunksize = refl;
          raid_disks = refl;
          new_level = refl;
          reshape_position = refl;
          delta_disks = refl;
          new_layout = refl;
          new_chunk = refl;
          resync_offset = refl;
          reshaping = a.reshaping;
          backward = a.backward;
        });
        count = ap role_count (sym end.later.same);
        few = few-roles last.newest (valid-shapes last.newest [] end.held.sound.fields);
      }

pub stay-said-in-rounds : MembersStaySaidInRounds
stay-said-in-rounds scope known left before members change d last ready said spares end since =
    planned-said scope known members.lost before end.named end.known members change last.newest end.own d ready.held
    (λ s is. ready.within s (still-left scope known left before members change d last ready end s is).1)
    (fits-end scope known left before members change d last ready end) end.are
    (λ s isnt is. ready.within s (since s isnt is))
    (planned-end scope known left before members change d last ready end) end.kept said
    (λ s sb is own. spares s sb (still-left scope known left before members change d last ready end s is).0 own)
