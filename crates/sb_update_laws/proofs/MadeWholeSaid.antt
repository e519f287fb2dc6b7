-- The superblocks that an update leaves which makes a recovering slot whole say the roles and the spares that it plans. But for the state of
-- its role they say what they would if the slot still recovered.
use Rattle.std.proofs.Common.{◌≡◌, ◌≢◌, inl, inr, ⊎_elim, ℕ, zero, suc, ◌+◌, ◌<◌, ◌≤◌, ◌==◌, Bool, true, false, cond, not, ◌&&◌, ◌||◌, nat_lt, List, [], ◌∷◌, set, length, get_or, replicate, Option, Some, None, unwrap_or, option_map, refl, sym, ◌∙◌, ap, ap₂, subst, arith}
use Rattle.std.specs.Option.{option_or, option_map_or}
use Rattle.std.proofs.lemmas.Bool.{cases_eq, cases_lt}
use Rattle.std.proofs.lemmas.Bool.Decides.{nat_tests}
use Rattle.std.proofs.lemmas.List.{get_or_past, get_or-set_same, get_or-set_other}
use Rattle.sb_read_laws.specs.raid_types_Sectors.{Sector}
use Rattle.sb_read_laws.specs.raid_types_Shapes.{has_slot}
use Rattle.sb_read_laws.specs.raid_types_Search.{tabulate, least_below}
use Rattle.sb_read_laws.specs.raid_types_the_Role.{Role}
use Rattle.sb_read_laws.specs.raid_types_the_Role_TheVariants.{Whole, Recovering, Missing}
use Rattle.sb_read_laws.proofs.raid_types_Tabulated.{length-tabulate, get_or-tabulate}
use Rattle.sb_read_laws.specs.sb_codec_the_Sb.{Sb}
use Rattle.sb_read_laws.specs.sb_specs_the_Give.{Give}
use Rattle.sb_read_laws.specs.sb_specs_the_Give_TheVariants.{Same}
use Rattle.sb_read_laws.specs.sb_specs_the_Give_TheVariants as give
use Rattle.sb_read_laws.specs.sb_specs_the_Change.{Change}
use Rattle.sb_read_laws.specs.sb_specs_the_Members.{Members}
use Rattle.sb_read_laws.specs.sb_specs_Reading.{Scope, is_fresh, is_recovering, entry_of, holds_role, state_of, is_spare, lies_within, role_count, holder, holder_from, spares_from}
use Rattle.sb_read_laws.specs.sb_specs_Update.{planned, give_of, own_in, is_added, planned_role, is_planned_spare}
use Rattle.sb_read_laws.specs.sb_specs_Outcome.{is_in_update, slots_below, is_same, is_planned_holder, held_state, planned_state, live_set}
use Rattle.sb_read_laws.specs.sb_specs_Reads.{SaysSame, held_in, spare_in, has_spare}
use Rattle.sb_read_laws.specs.sb_specs_Held.{IsStamped, known_of}
use Rattle.sb_read_laws.specs.sb_specs_Stages.{AreLeft, AreKept}
use Rattle.sb_read_laws.specs.sb_specs_Plans.{KeepsRecovery, IsFitChange}
use Rattle.sb_read_laws.specs.sb_specs_Updating.{planned_newest, IsLater, AreNamed}
use Rattle.sb_read_laws.specs.sb_specs_Rounds.{IsReady}
use Rattle.sb_read_laws.specs.sb_specs_Crash.{IsWithin}
use Rattle.sb_read_laws.specs.Said.{AreSaid, AreSparesFit, AreSaidAsPlanned}
use Rattle.sb_read_laws.proofs.sb_specs_ReadLists.{Own, by_bool, holder-step, spare-step, spares-at}
use Rattle.sb_read_laws.proofs.sb_specs_ReadAlike.{none_below, tabulate-same}
use Rattle.sb_read_laws.proofs.sb_specs_HeldReads.{known_at}
use Rattle.sb_read_laws.proofs.sb_specs_Exact.{all_same}
use Rattle.sb_read_laws.proofs.sb_specs_PlannedSb.{planned-of, recovering-same, recovering-none}
use Rattle.sb_read_laws.proofs.sb_specs_ValidFields.{valid-shapes, few-roles}
use Rattle.sb_read_laws.proofs.RoundReads.{and_first, and_second}
use Rattle.sb_read_laws.proofs.sb_specs_SlotSets.{has-set_of}
use Rattle.sb_read_laws.proofs.SaidLists.{state-here, role-holder}
use Rattle.sb_read_laws.proofs.SaidSlots.{role-known}
use Rattle.sb_read_laws.proofs.Tied.{planned-said}
use Rattle.sb_update_laws.specs.MakingWhole.{without_gives, IsMakingWhole, MembersMadeWholeStaySaid}
use Rattle.sb_update_laws.proofs.Wide as wide
use Rattle.sb_update_laws.proofs.WholeBefore.{roles_same}

-- ---- the state of the slot's role

equal : (a b : ℕ) → (a == b) ≡ true → a ≡ b
equal a b h = grind (arith, nat_tests)

self : (a : ℕ) → (a == a) ≡ true
self a = grind (arith, nat_tests)

differ : (a b : ℕ) → a ≢ b → (a == b) ≡ false
differ a b h = grind (arith, nat_tests)

both-true : (a b : Bool) → (a && b) ≡ true → (a ≡ true) × (b ≡ true)
both-true true b h = (refl, h)
both-true false b h = absurd (cc)

if-some : (b : Bool) (x y : Role) → cond b (Some x) None ≡ Some y → b ≡ true
if-some true x y h = refl
if-some false x y h = absurd (cc)

-- the state of a role once this slot is whole
abbrev made : ℕ → Role → Role
made slot (Whole s) = Whole s
made slot (Recovering s) = cond (s == slot) (Whole s) (Recovering s)
made slot Missing = Missing

made-here : (slot : ℕ) (state : Role) → holder state ≡ Some slot → made slot state ≡ Whole slot
made-here slot (Whole s) is = let same : s ≡ slot = cc in ap (λ (n : ℕ). Whole n) same
made-here slot (Recovering s) is =
    let same : s ≡ slot = cc in ap (λ b. cond b (Whole s) (Recovering s)) (ap (λ (n : ℕ). n == slot) same ∙ self slot) ∙ ap (λ (n : ℕ). Whole n) same
made-here slot Missing is = absurd (cc)

made-other : (slot s : ℕ) (state : Role) → s ≢ slot → holder state ≡ Some s → made slot state ≡ state
made-other slot s (Whole t) apart is = refl
made-other slot s (Recovering t) apart is =
    let same : t ≡ s = cc in ap (λ b. cond b (Whole t) (Recovering t)) (ap (λ (n : ℕ). n == slot) same ∙ differ s slot apart)
made-other slot s Missing apart is = refl

made-or : (slot : ℕ) (found : Option Role) (rest : Role) → unwrap_or (option_map (made slot) found) (made slot rest) ≡ made slot (unwrap_or found rest)
made-or slot None rest = refl
made-or slot (Some state) rest = refl

-- ---- lists of superblocks that differ in this slot's alone

holder-made : (N : Sb) (slot role i : ℕ) (X Y : Own) → length X ≡ length Y
    → ((k : ℕ) → held_in N role (i + k) (get_or X k None) ≡ option_map (made slot) (held_in N role (i + k) (get_or Y k None)))
    → holder_from N role i X ≡ made slot (holder_from N role i Y)
holder-made N slot role i [] [] long alike = refl
holder-made N slot role i [] (y ∷ Y) long alike = absurd (omega (arith, long))
holder-made N slot role i (x ∷ X) [] long alike = absurd (omega (arith, long))
holder-made N slot role i (x ∷ X) (y ∷ Y) long alike =
    let first : i + 0 ≡ i = omega arith in
    holder-step N role i x X
    ∙ ap₂ (λ a b. unwrap_or a b)
    (subst (λ (j : ℕ). held_in N role j x ≡ option_map (made slot) (held_in N role j y)) first (alike 0))
    (holder-made N slot role (i + 1) X Y (omega (arith, long))
    (λ k. let next : i + suc k ≡ i + 1 + k = omega arith in subst (λ (j : ℕ). held_in N role j (get_or X k None) ≡ option_map (made slot) (held_in N role j (get_or Y k None))) next (alike (suc k))))
    ∙ made-or slot (held_in N role i y) (holder_from N role (i + 1) Y)
    ∙ sym (ap (made slot) (holder-step N role i y Y))

spares-alike : (N : Sb) (sectors : ℕ → ℕ) (i : ℕ) (X Y : Own) → length X ≡ length Y
    → ((k : ℕ) → spare_in N (sectors (i + k)) (get_or X k None) ≡ spare_in N (sectors (i + k)) (get_or Y k None))
    → spares_from N sectors i X ≡ spares_from N sectors i Y
spares-alike N sectors i [] [] long alike = refl
spares-alike N sectors i [] (y ∷ Y) long alike = absurd (omega (arith, long))
spares-alike N sectors i (x ∷ X) [] long alike = absurd (omega (arith, long))
spares-alike N sectors i (x ∷ X) (y ∷ Y) long alike =
    let first : i + 0 ≡ i = omega arith in
    spare-step N sectors i x X
    ∙ ap₂ (λ b rest. cond b (i ∷ rest) rest)
    (subst (λ (j : ℕ). spare_in N (sectors j) x ≡ spare_in N (sectors j) y) first (alike 0))
    (spares-alike N sectors (i + 1) X Y (omega (arith, long))
    (λ k. let next : i + suc k ≡ i + 1 + k = omega arith in subst (λ (j : ℕ). spare_in N (sectors j) (get_or X k None) ≡ spare_in N (sectors j) (get_or Y k None)) next (alike (suc k))))
    ∙ sym (spare-step N sectors i y Y)

-- another slot's part is the same
held-other : (N : Sb) (slot role k : ℕ) (x : Option Sb) → k ≢ slot → held_in N role k x ≡ option_map (made slot) (held_in N role k x)
held-other N slot role k None apart = refl
held-other N slot role k (Some sb) apart = of (holds_role N role sb) (is_recovering sb)
  where
    of : (b c : Bool) → cond b (Some (cond c (Recovering k) (Whole k))) None ≡ option_map (made slot) (cond b (Some (cond c (Recovering k) (Whole k))) None)
    of true true = ap (λ (state : Role). Some state) (sym (made-other slot k (Recovering k) apart refl))
    of true false = refl
    of false c = refl

-- a device with a role is no spare
no-spare : (N : Sb) (len role : ℕ) (sb : Sb) → (entry_of N sb.dev_number == role) ≡ true → role < 16 → is_spare N len sb ≡ false
no-spare N len role sb is small = never (is_fresh N sb) (is_recovering sb) (nat_lt sb.dev_number 128) (entry_of N sb.dev_number == 0xffff) (lies_within N len sb)
    (far (entry_of N sb.dev_number) (equal (entry_of N sb.dev_number) role is))
  where
    far : (e : ℕ) → e ≡ role → (e == 0xffff) ≡ false
    far e same = grind (arith, nat_tests, small, same)

    never : (a b c d e : Bool) → d ≡ false → (a && not b && c && d && e) ≡ false
    never true true c d e is = refl
    never true false false d e is = refl
    never true false true true e is = absurd (cc)
    never true false true false e is = refl
    never false b c d e is = refl

-- nor is one that recovers
recovers-no-spare : (N : Sb) (len : ℕ) (sb : Sb) → is_recovering sb ≡ true → is_spare N len sb ≡ false
recovers-no-spare N len sb is = never (is_fresh N sb) (is_recovering sb) (nat_lt sb.dev_number 128) (entry_of N sb.dev_number == 0xffff) (lies_within N len sb) is
  where
    never : (a b c d e : Bool) → b ≡ true → (a && not b && c && d && e) ≡ false
    never true true c d e is = refl
    never true false c d e is = absurd (cc)
    never false b c d e is = refl

-- ---- the least number that passes

least-found : (n : ℕ) (test : ℕ → Bool) (k : ℕ) → least_below n test ≡ Some k → test k ≡ true
unfolding least_below
least-found zero test k is = absurd (cc)
least-found (suc n) test k is = of (least_below n test) (test n) (least-found n test k) refl is
  where
    of : (found : Option ℕ) (b : Bool) → (found ≡ Some k → test k ≡ true) → test n ≡ b → option_or found (cond b (Some n) None) ≡ Some k → test k ≡ true
    of (Some m) b rest last is = rest is
    of None true rest last is = let same : n ≡ k = cc in ap test (sym same) ∙ last
    of None false rest last is = absurd (cc)

-- ---- the end of the update

-- What is planned for the live slots that weren't lost: by this newest superblock, which names those that were.
pub record ArePlannedFor (members : Members) (change : Change) (before live : ℕ) (newest : Sb) : Type 0 where
  pub named : ℕ
  pub known : ℕ
  pub own : List (Option Sb)
  pub are : AreLeft live named known
  pub more : IsWithin members.lost named
  pub later : IsLater (planned_newest change.shared members.newest) newest
  pub plan : AreNamed members change before named newest
  pub table : length newest.dev_roles ≡ 384
  pub few : role_count newest ≤ 16
  pub kept : AreKept newest change.gives members.own known own

module _ (scope : Scope) (known left before : ℕ) (members : Members) (change : Change) (slot role : ℕ) (d : ℕ → ℕ → List Sector) (N : Sb) (making : IsMakingWhole members change slot role)
    (ready : IsReady scope known left members (without_gives change) (live_set members change) d) (said : AreSaid scope known members)
    (end : ArePlannedFor members change before (live_set members change) N)
    (since : (s : ℕ) → has_slot before s ≡ false → has_slot end.named s ≡ true → has_slot (live_set members change) s ≡ true) where
  abbrev gives : List Give
  gives = replicate 32 Same

  kept-first : (s : ℕ) → has_slot end.named s ≡ false → has_slot members.lost s ≡ false
  kept-first s none = wide.outside members.lost end.named s (end.more s) none

  of-first : (s : ℕ) → has_slot end.named s ≡ false → has_slot left s ≡ true → has_slot end.known s ≡ true
  of-first s none is = end.are s ∙ (λ i. and_first (has_slot (live_set members change) s) (has_slot members.lost s) (sym (ready.are s) ∙ is) i && not (none i))

  is-live : (s : ℕ) → has_slot end.known s ≡ true → has_slot (live_set members change) s ≡ true
  is-live s is = and_first (has_slot (live_set members change) s) (has_slot end.named s) (sym (end.are s) ∙ is)

  is-kept : (s : ℕ) → has_slot end.known s ≡ true → has_slot end.named s ≡ false
  is-kept s is = and_second (has_slot (live_set members change) s) (has_slot end.named s) (sym (end.are s) ∙ is)

  still-left : (s : ℕ) → has_slot end.known s ≡ true → has_slot left s ≡ true
  still-left s is = ready.are s ∙ (λ i. is-live s is i && not (kept-first s (is-kept s is) i))

  fits-end : IsFitChange known end.named end.known members (without_gives change)
  fits-end = record {
    role = λ s r none is. of-first s none (ready.fits.role s r (kept-first s none) is);
    below = λ s r none is. ready.fits.below s r (kept-first s none) is;
    spare = λ s none is. of-first s none (ready.fits.spare s (kept-first s none) is);
    one_holder = λ s t r none none' is is'. ready.fits.one_holder s t r (kept-first s none) (kept-first t none') is is';
    fields = ready.fits.fields;
    size = ready.fits.size;
    written = λ s is none. of-first s none (ready.fits.written s is (kept-first s none));
    devices = λ s sb is own. subst (λ (g : Give). KeepsRecovery g sb) (sym (all_same 32 s)) tt;
    one = λ s t is is' first first'. ready.fits.one s t (still-left s is) (still-left t is') first first';
  }

  same_give : (s : ℕ) → s ≢ slot → give_of change.gives s ≡ give_of gives s
  same_give s apart = making.others s apart ∙ sym (all_same 32 s)

  -- ---- the superblocks if the slot still recovered

  abbrev now : Sb
  now = planned N (give.Role role None) making.sb

  abbrev was : Sb
  was = planned N Same making.sb

  abbrev Still : Own
  Still = set end.own slot (Some was)

  still-other : (s : ℕ) → s ≢ slot → own_in Still s ≡ own_in end.own s
  still-other s apart = get_or-set_other end.own slot s (Some was) None apart

  kept-now : has_slot end.known slot ≡ true → IsStamped now (own_in end.own slot)
  kept-now is = subst (λ (g : Give). IsStamped (planned N g making.sb) (own_in end.own slot)) making.gives (end.kept slot making.sb is making.is)

  still-slot : has_slot end.known slot ≡ true → own_in Still slot ≡ Some was
  still-slot is = get_or-set_same end.own slot (Some was) None (elim (cases_lt slot (length end.own)) [
    | inl below ↦ below
    | inr past ↦ absurd (let y = kept-now is in let none : None ≡ Some (record now { sb_csum = y.0 }) = sym (get_or_past end.own slot None past) ∙ y.1 in cc)
  ])

  kept-still : AreKept N gives members.own end.known Still
  kept-still s sb is own_sb = elim (cases_eq s slot) [
    | inl same ↦
        let it : making.sb ≡ sb = (let both : Some making.sb ≡ Some sb = sym making.is ∙ ap (own_in members.own) (sym same) ∙ own_sb in cc) in
        subst (λ (z : Sb). IsStamped (planned N (give_of gives s) z) (own_in Still s)) it
        (subst (λ (g : Give). IsStamped (planned N g making.sb) (own_in Still s)) (sym (all_same 32 s))
        (making.sb.sb_csum, ap (own_in Still) same ∙ still-slot (ap (has_slot end.known) (sym same) ∙ is)))
    | inr apart ↦
        let y = end.kept s sb is own_sb in
        subst (λ (g : Give). IsStamped (planned N g sb) (own_in Still s)) (same_give s apart) (y.0, still-other s apart ∙ y.1)
  ]

  spares-fit : AreSparesFit end.known members (without_gives change)
  spares-fit s sb is own none so = absurd (
      let either : (has_spare members.spares s || is_added change.added s) ≡ true = sym (ap (λ (g : Give). is_planned_spare members.spares change.added g s) (all_same 32 s)) ∙ so in
      let isnt : (has_spare members.spares s || is_added change.added s) ≡ false = λ i. none i || is_added (making.none i) s in
      let both = sym isnt ∙ either in cc
      )

  still-said : AreSaidAsPlanned scope known end.named end.known members (without_gives change) N Still
  still-said =
      let a = (planned-of change.shared members.newest Same).array in
      planned-said scope known members.lost before end.named end.known members (without_gives change) N Still d ready.held
      (λ s is. ready.within s (is-live s is)) fits-end end.are
      (λ s isnt is. ready.within s (since s isnt is))
      (record {
        table = end.plan.0;
        roles = end.plan.1 ∙ sym (roles_same members change slot role making before end.named end.plan.0);
        long = end.table;
        room = ap (λ (z : Sb). z.max_dev) end.later.same;
        size = ap (λ (z : Sb). z.size) end.later.same ∙ ready.fits.size;
        says = subst (SaysSame change.shared) (sym end.later.same) (record {
          level = refl;
          layout = refl;
          size = refl;
          chunksize = refl;
          raid_disks = refl;
          new_level = refl;
          reshape_position = refl;
          delta_disks = refl;
          new_layout = refl;
          new_chunk = refl;
          resync_offset = refl;
          reshaping = a.reshaping;
          backward = a.backward;
        });
        count = ap role_count (sym end.later.same);
        few = end.few;
      }) kept-still said spares-fit

  -- ---- slot by slot

  abbrev Now : Own
  Now = known_of scope end.known end.own

  abbrev Was : Own
  Was = known_of scope end.known Still

  long : length Now ≡ length Was
  long = length-tabulate scope.sizes.slots (known_at end.known end.own) ∙ sym (length-tabulate scope.sizes.slots (known_at end.known Still))

  listed : (own : Own) (s : ℕ) → s < scope.sizes.slots → get_or (known_of scope end.known own) s None ≡ known_at end.known own s
  listed own s below = get_or-tabulate scope.sizes.slots (known_at end.known own) s None below

  unlisted : (own : Own) (s : ℕ) → scope.sizes.slots ≤ s → get_or (known_of scope end.known own) s None ≡ None
  unlisted own s past = get_or_past (known_of scope end.known own) s None (omega (arith, length-tabulate scope.sizes.slots (known_at end.known own), past))

  -- the lists have the same of each other slot, and of this one nothing, or the two superblocks
  alike : (P : ℕ → Option Sb → Option Sb → Type 0) → ((s : ℕ) (x : Option Sb) → s ≢ slot → P s x x) → P slot None None
      → ((csum : ℕ) → has_slot end.known slot ≡ true → P slot (Some (record now { sb_csum = csum })) (Some was)) → (s : ℕ) → P s (get_or Now s None) (get_or Was s None)
  alike P others none both s = elim (cases_eq s slot) [
    | inl same ↦ subst (λ (t : ℕ). P t (get_or Now t None) (get_or Was t None)) (sym same) (elim (cases_lt slot scope.sizes.slots) [
      | inl below ↦ ⊎_elim
          (λ is.
          let y = kept-now is in
          these slot (Some (record now { sb_csum = y.0 })) (Some was)
          (listed end.own slot below ∙ ap (λ b. cond b (own_in end.own slot) None) is ∙ y.1) (listed Still slot below ∙ ap (λ b. cond b (own_in Still slot) None) is ∙ still-slot is) (both y.0 is))
          (λ isnt. these slot None None (listed end.own slot below ∙ ap (λ b. cond b (own_in end.own slot) None) isnt) (listed Still slot below ∙ ap (λ b. cond b (own_in Still slot) None) isnt) none)
          (by_bool (has_slot end.known slot))
      | inr past ↦ these slot None None (unlisted end.own slot past) (unlisted Still slot past) none
    ])
    | inr apart ↦ elim (cases_lt s scope.sizes.slots) [
      | inl below ↦ these s (known_at end.known end.own s) (known_at end.known end.own s) (listed end.own s below) (listed Still s below ∙ ap (λ o. cond (has_slot end.known s) o None) (still-other s apart))
          (others s (known_at end.known end.own s) apart)
      | inr past ↦ these s None None (unlisted end.own s past) (unlisted Still s past) (others s None apart)
    ]
  ]
    where
      these : (t : ℕ) (x y : Option Sb) → get_or Now t None ≡ x → get_or Was t None ≡ y → P t x y → P t (get_or Now t None) (get_or Was t None)
      these t x y is is' p = subst (λ (a : Option Sb). P t a (get_or Was t None)) (sym is) (subst (λ (b : Option Sb). P t x b) (sym is') p)

  -- ---- the roles

  -- the slot's state alone differs
  role-made : (r csum : ℕ) → held_in N r slot (Some (record now { sb_csum = csum })) ≡ option_map (made slot) (held_in N r slot (Some was))
  role-made r csum =
      ap (λ c. cond (holds_role N r was) (Some (cond c (Recovering slot) (Whole slot))) None) (recovering-none N making.sb role)
      ∙ of (holds_role N r was)
      ∙ sym (ap (λ c. option_map (made slot) (cond (holds_role N r was) (Some (cond c (Recovering slot) (Whole slot))) None)) (recovering-same N making.sb ∙ making.recovers))
    where
      of : (b : Bool) → cond b (Some (Whole slot)) None ≡ option_map (made slot) (cond b (Some (Recovering slot)) None)
      of true = ap (λ (state : Role). Some state) (sym (made-here slot (Recovering slot) refl))
      of false = refl

  holders : (r : ℕ) → holder_from N r 0 Now ≡ made slot (holder_from N r 0 Was)
  holders r = holder-made N slot r 0 Now Was long
      (λ k. let here : k ≡ 0 + k = omega arith in
      subst (λ (j : ℕ). held_in N r j (get_or Now k None) ≡ option_map (made slot) (held_in N r j (get_or Was k None))) here
      (alike (λ s x y. held_in N r s x ≡ option_map (made slot) (held_in N r s y)) (λ s x apart. held-other N slot r s x apart) refl (λ csum is. role-made r csum) k))

  abbrev state : ℕ → Role
  state r = get_or members.roles r Missing

  -- the slot is planned the role that it has
  role-same : (s : ℕ) → planned_role members.roles (give_of change.gives s) s ≡ planned_role members.roles (give_of gives s) s
  role-same s = elim (cases_eq s slot) [
    | inl same ↦ subst (λ (t : ℕ). planned_role members.roles (give_of change.gives t) t ≡ planned_role members.roles (give_of gives t) t) (sym same)
        (ap (λ (g : Give). planned_role members.roles g slot) making.gives ∙ sym making.holds ∙ sym (ap (λ (g : Give). planned_role members.roles g slot) (all_same 32 slot)))
    | inr apart ↦ ap (λ (g : Give). planned_role members.roles g s) (same_give s apart)
  ]

  abbrev is_its : ℕ → ℕ → Bool
  is_its r s = is_planned_holder members.roles gives end.named r s

  holder-same : (r s : ℕ) → is_planned_holder members.roles change.gives end.named r s ≡ is_its r s
  holder-same r s = ap (λ (o : Option ℕ). not (has_slot end.named s) && is_same r o) (role-same s)

  has-role : (r s : ℕ) → is_its r s ≡ true → holder (state r) ≡ Some s
  has-role r s so = role-holder s members.roles r (sym (ap (λ (g : Give). planned_role members.roles g s) (all_same 32 s)) ∙ same_is (planned_role members.roles (give_of gives s) s) (both-true (not (has_slot end.named s)) (is_same r (planned_role members.roles (give_of gives s) s)) so).1)
    where
      same_is : (found : Option ℕ) → is_same r found ≡ true → found ≡ Some r
      same_is None is = absurd (cc)
      same_is (Some other) is = ap (λ (n : ℕ). Some n) (equal other r is)

  state-made : (r s : ℕ) → is_its r s ≡ true → held_state (state r) (give_of change.gives s) s ≡ made slot (held_state (state r) (give_of gives s) s)
  state-made r s so = elim (cases_eq s slot) [
    | inl same ↦ subst (λ (t : ℕ). held_state (state r) (give_of change.gives t) t ≡ Whole slot) (sym same) (ap (λ (g : Give). held_state (state r) g slot) making.gives)
        ∙ sym (made-here slot (state r) (has-role r s so ∙ ap (λ (n : ℕ). Some n) same)) ∙ former
    | inr apart ↦ ap (λ (g : Give). held_state (state r) g s) (making.others s apart) ∙ sym (made-other slot s (state r) apart (has-role r s so)) ∙ former
  ]
    where
      former : made slot (state r) ≡ made slot (held_state (state r) (give_of gives s) s)
      former = ap (λ (g : Give). made slot (held_state (state r) g s)) (sym (all_same 32 s))

  states : (r : ℕ) → planned_state members.roles change.gives end.named r ≡ made slot (planned_state members.roles gives end.named r)
  states r = (λ i. option_map_or (λ s. held_state (state r) (give_of change.gives s) s) (least_below 32 (λ s. holder-same r s i)) Missing) ∙ of (least_below 32 (is_its r)) refl
    where
      of : (found : Option ℕ) → least_below 32 (is_its r) ≡ found
          → option_map_or (λ s. held_state (state r) (give_of change.gives s) s) found Missing ≡ made slot (option_map_or (λ s. held_state (state r) (give_of gives s) s) found Missing)
      of None is = refl
      of (Some s) is = state-made r s (least-found 32 (is_its r) s is)

  count-is : role_count N ≡ role_count change.shared
  count-is =
      sym (length-tabulate (role_count N) (λ r. holder_from N r 0 Was)) ∙ ap length still-said.roles
      ∙ length-tabulate (role_count change.shared) (planned_state members.roles gives end.named)

  still-state : (r : ℕ) → r < role_count N → holder_from N r 0 Was ≡ planned_state members.roles gives end.named r
  still-state r below =
      sym (get_or-tabulate (role_count N) (λ r. holder_from N r 0 Was) r Missing below) ∙ ap (λ (l : List Role). get_or l r Missing) still-said.roles
      ∙ get_or-tabulate (role_count change.shared) (planned_state members.roles gives end.named) r Missing (omega (arith, below, count-is))

  -- ---- the spares

  -- of the two superblocks neither is a spare's, since the slot's device has its role
  module _ (is : has_slot end.known slot ≡ true) where
    planned-its : planned_role members.roles (give_of gives slot) slot ≡ Some role
    planned-its = ap (λ (g : Give). planned_role members.roles g slot) (all_same 32 slot) ∙ making.holds

    below : role < role_count N
    below = let h = fits-end.below slot role (is-kept slot is) planned-its in omega (arith, h, ap role_count (sym end.later.same))

    small : slot < 32
    small = is_less (both-true (nat_lt slot 32) (is_in_update members change slot) (sym (has-set_of 32 (is_in_update members change) slot) ∙ is-live slot is)).0
      where
        is_less : nat_lt slot 32 ≡ true → slot < 32
        is_less h = grind (arith, nat_tests)

    its : is_its role slot ≡ true
    its = (λ i. not (is-kept slot is i) && is_same role (planned-its i)) ∙ self role

    at-slot : holder (holder_from N role 0 Was) ≡ Some slot
    at-slot = ap holder (still-state role below ∙ of (least_below 32 (is_its role)) refl) ∙ role-holder slot members.roles role making.holds
      where
        of : (found : Option ℕ) → least_below 32 (is_its role) ≡ found → option_map_or (λ s. held_state (state role) (give_of gives s) s) found Missing ≡ state role
        of None none = absurd (let both = sym its ∙ none_below 32 (is_its role) slot small none in cc)
        of (Some s) found = ap (λ (g : Give). held_state (state role) g s) (all_same 32 s)

    entry-is : (entry_of N making.sb.dev_number == role) ≡ true
    entry-is =
        let there = wide.there scope members (without_gives change) before (live_set members change) known left d ready slot (is-live slot is) in
        let found = sym (ap (held_in N role slot) (listed Still slot there ∙ ap (λ b. cond b (own_in Still slot) None) is ∙ still-slot is)) ∙ state-here N role Was slot at-slot in
        (both-true (is_fresh N was) (entry_of N making.sb.dev_number == role) (if-some (holds_role N role was) (state_of slot was) (holder_from N role 0 Was) found)).1

    no-spares : (csum len : ℕ) → spare_in N len (Some (record now { sb_csum = csum })) ≡ spare_in N len (Some was)
    no-spares csum len =
        let few = end.few in
        no-spare N len role (record now { sb_csum = csum }) entry-is (omega (arith, below, few)) ∙ sym (no-spare N len role was entry-is (omega (arith, below, few)))

  spares-same : spares_from N scope.sizes.sectors 0 Now ≡ spares_from N scope.sizes.sectors 0 Was
  spares-same = spares-alike N scope.sizes.sectors 0 Now Was long
      (λ k. let here : k ≡ 0 + k = omega arith in
      subst (λ (j : ℕ). spare_in N (scope.sizes.sectors j) (get_or Now k None) ≡ spare_in N (scope.sizes.sectors j) (get_or Was k None)) here
      (alike (λ s x y. spare_in N (scope.sizes.sectors s) x ≡ spare_in N (scope.sizes.sectors s) y) (λ s x apart. refl) refl (λ csum is. no-spares is csum (scope.sizes.sectors slot)) k))

  -- nor was it a spare before
  was-none : has_spare members.spares slot ≡ false
  was-none =
      let k = role-known scope known members said role slot (role-holder slot members.roles role making.holds) in
      let it : making.sb ≡ k.1 = (let both : Some making.sb ≡ Some k.1 = sym making.is ∙ k.2 in cc) in
      let here : slot ≡ 0 + slot = omega arith in
      ap (λ (l : List ℕ). has_spare l slot) said.spares ∙ spares-at members.newest scope.sizes.sectors 0 slot slot (known_of scope known members.own) here
      ∙ ap (spare_in members.newest (scope.sizes.sectors slot)) (k.3 ∙ ap (λ (z : Sb). Some z) (sym it))
      ∙ recovers-no-spare members.newest (scope.sizes.sectors slot) making.sb making.recovers

  spare-same : (s : ℕ) → is_planned_spare members.spares change.added (give_of change.gives s) s ≡ is_planned_spare members.spares change.added (give_of gives s) s
  spare-same s = elim (cases_eq s slot) [
    | inl same ↦ subst (λ (t : ℕ). is_planned_spare members.spares change.added (give_of change.gives t) t ≡ is_planned_spare members.spares change.added (give_of gives t) t) (sym same)
        (ap (λ (g : Give). is_planned_spare members.spares change.added g slot) making.gives ∙ sym (λ i. was-none i || is_added (making.none i) slot)
        ∙ sym (ap (λ (g : Give). is_planned_spare members.spares change.added g slot) (all_same 32 slot)))
    | inr apart ↦ ap (λ (g : Give). is_planned_spare members.spares change.added g s) (same_give s apart)
  ]

  -- ---- all

  pub made-said : AreSaidAsPlanned scope known end.named end.known members change N end.own
  made-said = record {
    roles = tabulate-same (role_count N) (λ r. holder_from N r 0 Now) (planned_state members.roles change.gives end.named)
        (λ r below. holders r ∙ ap (made slot) (still-state r below) ∙ sym (states r))
        ∙ ap (λ (n : ℕ). tabulate n (planned_state members.roles change.gives end.named)) count-is;
    spares = spares-same ∙ still-said.spares ∙ sym (λ i. slots_below 32 (λ s. not (has_slot end.named s) && spare-same s i));
    starts = λ s is. alike (λ t x y. option_map_or (λ (z : Sb). z.data_offset) x 0 ≡ option_map_or (λ (z : Sb). z.data_offset) y 0) (λ t x apart. refl) refl (λ csum is'. refl) s ∙ still-said.starts s is;
  }

pub stay-said : MembersMadeWholeStaySaid
stay-said scope known left before members change slot role d last making ready said end since = made-said scope known left before members change slot role d last.newest making ready said
    (record {
      named = end.named;
      known = end.known;
      own = end.own;
      are = end.are;
      more = end.more;
      later = end.later;
      plan = end.plan;
      table = end.held.table;
      few = few-roles last.newest (valid-shapes last.newest [] end.held.sound.fields);
      kept = end.kept;
    })
    since
