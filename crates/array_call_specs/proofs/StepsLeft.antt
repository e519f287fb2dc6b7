-- The steps that are left, as members are lost, and as a step is done.
use Rattle.std.proofs.Common.{◌≡◌, ◌≢◌, inl, inr, ℕ, zero, suc, ◌+◌, ◌-◌, ◌*◌, ◌/◌, ◌<◌, ◌≤◌, min, nat_lt, ◌==◌, Bool, true, false, not, ◌&&◌, ◌||◌, cond, List, [], ◌∷◌, ◌++◌, length, drop, Option, Some, None, is_some, refl, sym, ◌∙◌, eqb-true, ap, ap₂, subst, arith}
use Rattle.std.proofs.Math.Nat.{add-min-add_right, suc-mul, min-le_left, min-le_right, le-min, le_trans, mul-le-mul_right}
use Rattle.std.proofs.Math.Numerals.{suc-eq-add-one}
use Rattle.std.proofs.lemmas.Bool.{cases_lt, cases_eq}
use Rattle.std.specs.List.{list_any}
use Rattle.std.proofs.Math.Seq.{drop-append_seam}
use Rattle.std.proofs.lemmas.List.Folds.{list_any-append}
use Rattle.std.proofs.lemmas.Bool.Decides.{nat_tests}
use Rattle.std.proofs.lemmas.List.{get_or-set_same, get_or-set_other}
use Rattle.raid_types.specs.Search.{count_below}
use Rattle.raid_types.specs.Shapes.{has_slot}
use Rattle.raid_types.specs.declared.places.Shape.{Shape}
use Rattle.raid_types.specs.declared.status.Role.{Role}
use Rattle.raid_types.specs.declared.status.Role.TheVariants.{Whole, Recovering, Missing}
use Rattle.history_append.proofs.raid_layout_Limits.{limited}
use Rattle.history_append.specs.bank_Given.{Given}
use Rattle.history_append.specs.sb_specs_the_Members.{Members}
use Rattle.history_append.proofs.array_members_Fit.{fit-valid, force-disks}
use Rattle.history_append.specs.sb_specs_Reading.{shape_of, role_state, holder}
use Rattle.history_append.specs.sb_specs_Reads.{has_spare}
use Rattle.history_append.proofs.sb_read_laws_SaidSlots.{has-slots_below}
use Rattle.history_append.specs.stripe_row_Rows.{reading_of}
use Rattle.raid_types.specs.declared.answers.Who.{Who}
use Rattle.history_append.specs.history_the_Entry.{Entry}
use Rattle.history_append.specs.history_the_Event.{Event}
use Rattle.history_append.specs.history_Legal.{disturbs}
use Rattle.history_append.specs.history_Fits.{is_lost_event}
use Rattle.history_append.specs.history_Plain.{entries_of}
use Rattle.history_append.specs.history_the_Event_TheVariants.{Lost, SpareLost}
use Rattle.history_append.specs.history_the_LostCause_TheVariants.{Fault}
use Rattle.history_append.specs.array_members_the_Work.{Work}
use Rattle.history_append.specs.array_members_Placed.{is_unassigned}
use Rattle.history_append.specs.array_members_Moving.{IsMoved}
use Rattle.history_append.specs.Losing.{role_loss, role_losses, spare_loss, spare_losses, losses_of}
use Rattle.history_append.specs.array_members_Lacking.{AreLostSince}
use Rattle.history_append.specs.array_members_Status.{stripes_of, rebuilt_of, vacant_count, spare_count, resync_left, role_left, recovery_left, left_of}
use Rattle.history_append.specs.array_members_Rebuilding.{with_state, with_recovering, with_whole}
use Rattle.array_call_specs.specs.Calls.{AreStepsFewer, AreStepsKept, with_rebuilt}
use Rattle.history_append.proofs.array_members_Counts.{count-implied}

-- ---- sums and counts

-- the steps of the roles, by those of each
pub recovery-same : (n : ℕ) (work' work : Work) (members' members : Members)
    → ((role : ℕ) → role < n → role_left (stripes_of members') (rebuilt_of work' role) (role_state (reading_of members') role) ≡ role_left (stripes_of members) (rebuilt_of work role) (role_state (reading_of members) role))
    → recovery_left work' members' n ≡ recovery_left work members n
unfolding recovery_left
recovery-same zero work' members' work members same = refl
recovery-same (suc n) work' work members' members same = ap₂ (λ (a b : ℕ). a + b) (recovery-same n work' work members' members (λ role lt. same role (omega (arith, lt)))) (same n (omega arith))

pub recovery-none : (work : Work) (members : Members) → recovery_left work members 0 ≡ 0
unfolding recovery_left
recovery-none work members = refl

recovery-suc : (work : Work) (members : Members) (n : ℕ) → recovery_left work members (suc n) ≡ recovery_left work members n + role_left (stripes_of members) (rebuilt_of work n) (role_state (reading_of members) n)
unfolding recovery_left
recovery-suc work members n = refl

pub recovery-more : (work : Work) (members : Members) (n : ℕ) → recovery_left work members (n + 1) ≡ recovery_left work members n + role_left (stripes_of members) (rebuilt_of work n) (role_state (reading_of members) n)
recovery-more work members n = let next : n + 1 ≡ suc n = omega arith in ap (recovery_left work members) next ∙ recovery-suc work members n

-- the same where one role has fewer
recovery-less : (n : ℕ) (work' work : Work) (members' members : Members) (role less more : ℕ) → role < n
    → role_left (stripes_of members') (rebuilt_of work' role) (role_state (reading_of members') role) + less ≡ role_left (stripes_of members) (rebuilt_of work role) (role_state (reading_of members) role) + more
    → ((other : ℕ) → other < n → other ≢ role → role_left (stripes_of members') (rebuilt_of work' other) (role_state (reading_of members') other) ≡ role_left (stripes_of members) (rebuilt_of work other) (role_state (reading_of members) other))
    → recovery_left work' members' n + less ≡ recovery_left work members n + more
unfolding recovery_left
recovery-less zero work' work members' members role less more lt here same = absurd (omega (arith, lt))
recovery-less (suc n) work' work members' members role less more lt here same = elim (cases_lt role n) [
  | inl below ↦
      let before = recovery-less n work' work members' members role less more below here (λ other o apart. same other (omega (arith, o)) apart) in
      let last = same n (omega arith) (λ e. absurd (omega (arith, below, e))) in
      omega (arith, before, last)
  | inr above ↦
      let is : role ≡ n = omega (arith, lt, above) in
      let before = recovery-same n work' work members' members (λ other o. same other (omega (arith, o)) (λ e. absurd (omega (arith, o, e, is)))) in
      let last = subst (λ (r : ℕ). role_left (stripes_of members') (rebuilt_of work' r) (role_state (reading_of members') r) + less ≡ role_left (stripes_of members) (rebuilt_of work r) (role_state (reading_of members) r) + more) is here in
      omega (arith, before, last)
]

-- tests that agree below n pass as often
count-agrees : (n : ℕ) (f g : ℕ → Bool) → ((k : ℕ) → k < n → f k ≡ g k) → count_below n f ≡ count_below n g
count-agrees n f g same =
    let one = count-implied n f g (λ k lt is. sym (same k lt) ∙ is) in
    let other = count-implied n g f (λ k lt is. same k lt ∙ is) in
    omega (arith, one, other)

-- one that fails at one more number passes once less
count-less : (n : ℕ) (f g : ℕ → Bool) (at : ℕ) → at < n → f at ≡ true → g at ≡ false → ((k : ℕ) → k < n → k ≢ at → g k ≡ f k) → count_below n g + 1 ≡ count_below n f
unfolding count_below
count-less zero f g at lt passes fails same = absurd (omega (arith, lt))
count-less (suc n) f g at lt passes fails same = elim (cases_lt at n) [
  | inl below ↦
      let before = count-less n f g at below passes fails (λ k k_lt apart. same k (omega (arith, k_lt)) apart) in
      let last : ◌≡◌ {A = ℕ} (cond (g n) 1 0) (cond (f n) 1 0) = ap (λ (b : Bool). cond b 1 0) (same n (omega arith) (λ e. absurd (omega (arith, below, e)))) in
      omega (arith, before, last)
  | inr above ↦
      let is : at ≡ n = omega (arith, lt, above) in
      let before = count-agrees n g f (λ k k_lt. same k (omega (arith, k_lt)) (λ e. absurd (omega (arith, k_lt, e, is)))) in
      let last : ◌≡◌ {A = ℕ} (cond (f n) 1 0) 1 = ap (λ (b : Bool). cond b 1 0) (ap f (sym is) ∙ passes) in
      let none : ◌≡◌ {A = ℕ} (cond (g n) 1 0) 0 = ap (λ (b : Bool). cond b 1 0) (ap g (sym is) ∙ fails) in
      omega (arith, before, last, none)
]

-- ---- no loss is told

-- each role that no slot holds now had none before
abbrev pub AreNoneVacated : Members → Members → Type 0
AreNoneVacated old new = (role : ℕ) → role < (shape_of new.newest).disks → is_unassigned (reading_of new) role ≡ true → is_unassigned (reading_of old) role ≡ true

-- each spare is one still
abbrev pub AreSparesKept : Members → Members → Type 0
AreSparesKept old new = (slot : ℕ) → slot < 32 → has_spare old.spares slot ≡ true → has_spare new.spares slot ≡ true

-- each role's state is as it was
pub state-same : {given : Given} {old new : Members} → IsMoved given old new → AreNoneVacated old new → (role : ℕ) → role < (shape_of new.newest).disks
    → role_state (reading_of new) role ≡ role_state (reading_of old) role
state-same {old = old} {new = new} moved none role lt = by (role_state (reading_of new) role) (role_state (reading_of old) role) refl refl
  where
    vacated : (slot : ℕ) → role_state (reading_of new) role ≡ Missing → holder (role_state (reading_of old) role) ≡ Some slot → ⊥
    vacated slot is was =
        let vacant = none role lt (ap (λ (s : Role). not (is_some (holder s))) is) in
        let held = ap (λ (o : Option ℕ). not (is_some o)) was in absurd (cc)

    by : (s t : Role) → role_state (reading_of new) role ≡ s → role_state (reading_of old) role ≡ t → s ≡ t
    by (Whole slot) t is was = sym is ∙ moved.states role slot (ap holder is) ∙ was
    by (Recovering slot) t is was = sym is ∙ moved.states role slot (ap holder is) ∙ was
    by Missing Missing is was = refl
    by Missing (Whole slot) is was = absurd (vacated slot is (ap holder was))
    by Missing (Recovering slot) is was = absurd (vacated slot is (ap holder was))

same-test : (a b : Bool) → (a ≡ true → b ≡ true) → (b ≡ true → a ≡ true) → a ≡ b
same-test true b there back = sym (there refl)
same-test false true there back = back refl
same-test false false there back = refl

-- what members that lost no role have as before
record ArePartsSame (work : Work) (old new : Members) : Type 0 where
  steps : resync_left work.resync new + recovery_left work new (shape_of new.newest).disks ≡ resync_left work.resync old + recovery_left work old (shape_of old.newest).disks
  vacant : vacant_count new ≡ vacant_count old
  stripes : stripes_of new ≡ stripes_of old

roles-same : {given : Given} {old new : Members} (work : Work) → IsMoved given old new → AreNoneVacated old new → ArePartsSame work old new
roles-same {old = old} {new = new} work moved none =
    let states = state-same moved none in
    let disks : (shape_of new.newest).disks ≡ (shape_of old.newest).disks = ap (λ (s : Shape). s.disks) moved.shape in
    let stripes : stripes_of new ≡ stripes_of old = ap₂ (λ (size : ℕ) (s : Shape). size / s.chunk) moved.size moved.shape in
    let recovery : recovery_left work new (shape_of new.newest).disks ≡ recovery_left work old (shape_of old.newest).disks =
    recovery-same (shape_of new.newest).disks work work new old (λ role lt. ap₂ (λ (n : ℕ) (s : Role). role_left n (rebuilt_of work role) s) stripes (states role lt))
    ∙ ap (recovery_left work old) disks in
    record {
      steps = ap₂ (λ (a b : ℕ). a + b) (resyncs work.resync stripes) recovery;
      vacant = count-agrees (shape_of new.newest).disks (is_unassigned (reading_of new)) (is_unassigned (reading_of old)) (λ role lt. ap (λ (s : Role). not (is_some (holder s))) (states role lt))
          ∙ ap (λ (n : ℕ). count_below n (is_unassigned (reading_of old))) disks;
      stripes = stripes;
    }
  where
    resyncs : (resync : Option ℕ) → stripes_of new ≡ stripes_of old → resync_left resync new ≡ resync_left resync old
    resyncs None stripes = refl
    resyncs (Some mended) stripes = ap (λ (n : ℕ). n - mended + 1) stripes

-- As many steps are left of members that lost no role and no spare.
pub left-same : {given : Given} {old new : Members} (work : Work) → IsMoved given old new → AreNoneVacated old new → AreSparesKept old new → left_of work new ≡ left_of work old
left-same {old = old} {new = new} work moved none kept =
    let parts = roles-same work moved none in
    let spares : spare_count new ≡ spare_count old = count-agrees 32 (has_spare new.spares) (has_spare old.spares) (λ slot lt. same-test (has_spare new.spares slot) (has_spare old.spares slot) (moved.fewer slot) (kept slot lt)) in
    let waiting : min (vacant_count new) (spare_count new) * (stripes_of new + 2) ≡ min (vacant_count old) (spare_count old) * (stripes_of old + 2) = ap₂ (λ (a b : ℕ). a * (b + 2)) (ap₂ min parts.vacant spares) parts.stripes in
    let steps = parts.steps in omega (arith, steps, waiting)

-- No more are left of those that lost no role.
pub left-fewer : {given : Given} {old new : Members} (work : Work) → IsMoved given old new → AreNoneVacated old new → left_of work new ≤ left_of work old
left-fewer {old = old} {new = new} work moved none =
    let parts = roles-same work moved none in
    let spares = count-implied 32 (has_spare new.spares) (has_spare old.spares) (λ slot lt. moved.fewer slot) in
    let waiting : min (vacant_count new) (spare_count new) * (stripes_of new + 2) ≡ min (vacant_count old) (spare_count new) * (stripes_of old + 2) = ap₂ (λ (a b : ℕ). min a (spare_count new) * (b + 2)) parts.vacant parts.stripes in
    let fewer = mul-le-mul_right (stripes_of old + 2) (le-min (min-le_left (vacant_count old) (spare_count new)) (le_trans (min-le_right (vacant_count old) (spare_count new)) spares)) in
    let steps = parts.steps in omega (arith, steps, waiting, fewer)

-- ---- where a call tells no loss

no-both : {X : Type 0} (p : X → Bool) (xs ys : List X) → list_any p (xs ++ ys) ≡ false → (list_any p xs ≡ false) × (list_any p ys ≡ false)
no-both p xs ys none = by (list_any p xs) (list_any p ys) (sym (list_any-append p xs ys) ∙ none)
  where
    by : (a b : Bool) → (a || b) ≡ false → (a ≡ false) × (b ≡ false)
    by true b is = absurd (cc)
    by false b is = (refl, is)

-- none of these roles and spares is lost
pub no-role : (p : Event → Bool) (roles n role : ℕ) → ((r : ℕ) → p (Lost r Fault) ≡ true) → list_any p (role_losses roles n) ≡ false → role < n → has_slot roles role ≡ true → ⊥
unfolding role_losses
no-role p roles zero role told none lt there = omega (arith, lt)
no-role p roles (suc n) role told none lt there =
    let both = no-both p (role_losses roles n) (role_loss roles n) none in
    elim (cases_lt role n) [
      | inl below ↦ no-role p roles n role told both.0 below there
      | inr above ↦
          let is : role ≡ n = omega (arith, lt, above) in
          let here : list_any p (role_loss roles n) ≡ (p (Lost n Fault) || false) = ap (λ (b : Bool). list_any p (cond b (Lost n Fault ∷ []) [])) (ap (has_slot roles) (sym is) ∙ there) in
          let nothing : true ≡ false = sym (here ∙ ap (λ (b : Bool). b || false) (told n)) ∙ both.1 in cc
    ]

no-spare : (p : Event → Bool) (spares n slot : ℕ) → ((s : ℕ) → p (SpareLost s) ≡ true) → list_any p (spare_losses spares n) ≡ false → slot < n → has_slot spares slot ≡ true → ⊥
unfolding spare_losses
no-spare p spares zero slot told none lt there = omega (arith, lt)
no-spare p spares (suc n) slot told none lt there =
    let both = no-both p (spare_losses spares n) (spare_loss spares n) none in
    elim (cases_lt slot n) [
      | inl below ↦ no-spare p spares n slot told both.0 below there
      | inr above ↦
          let is : slot ≡ n = omega (arith, lt, above) in
          let here : list_any p (spare_loss spares n) ≡ (p (SpareLost n) || false) = ap (λ (b : Bool). list_any p (cond b (SpareLost n ∷ []) [])) (ap (has_slot spares) (sym is) ∙ there) in
          let nothing : true ≡ false = sym (here ∙ ap (λ (b : Bool). b || false) (told n)) ∙ both.1 in cc
    ]

module _ {given : Given} {old new : Members} (moved : IsMoved given old new) {roles spares : ℕ} {before after : ℕ → ℕ} (since : AreLostSince old new roles spares before after) where
  none-vacated : (p : Event → Bool) → ((r : ℕ) → p (Lost r Fault) ≡ true) → list_any p (losses_of roles spares) ≡ false → AreNoneVacated old new
  none-vacated p told none role lt vacant = elim (since.vacant role (let within = force-disks new.newest moved.placed.fit (shape_of new.newest) (inl refl) in omega (arith, lt, within)) vacant) [
    | inl was ↦ was
    | inr lost ↦
        let few = (limited (shape_of new.newest) (fit-valid new.newest moved.placed.fit)).most in
        absurd (no-role p roles 16 role told (no-both p (role_losses roles 16) (spare_losses spares 32) none).0 (omega (arith, lt, few)) lost)
  ]

  -- so many steps are left where no loss is told
  pub left-quiet : (work : Work) → list_any disturbs (losses_of roles spares) ≡ false → left_of work new ≡ left_of work old
  left-quiet work none = left-same work moved (none-vacated disturbs (λ r. refl) none) (λ slot lt was. elim (since.told slot was) [
    | inl is ↦ is
    | inr lost ↦ absurd (no-spare disturbs spares 32 slot (λ s. refl) (no-both disturbs (role_losses roles 16) (spare_losses spares 32) none).1 lt lost)
  ])

  -- no more where that of no role is
  left-falls : (work : Work) → list_any is_lost_event (losses_of roles spares) ≡ false → left_of work new ≤ left_of work old
  left-falls work none = left-fewer work moved (none-vacated is_lost_event (λ r. refl) none)

pub left-moved : {given : Given} {old new : Members} → IsMoved given old new → (work : Work) (roles spares : ℕ) (before after : ℕ → ℕ) → AreLostSince old new roles spares before after
    → losses_of roles spares ≡ [] → left_of work new ≡ left_of work old
left-moved moved work roles spares before after since none = left-quiet moved since work (ap (list_any disturbs) none)

pub any-entries : (p : Event → Bool) (who : Who) (end : ℕ) (events : List Event) → list_any (λ e. p e.event) (entries_of who end events) ≡ list_any p events
any-entries p who end [] = refl
any-entries p who end (event ∷ events) = ap (λ (b : Bool). p event || b) (any-entries p who end events)

none-told : (p : Event → Bool) (entries new : List Entry) (who : Who) (end roles spares : ℕ) (tail : List Event) → new ≡ entries ++ entries_of who end (losses_of roles spares ++ tail)
    → not (list_any (λ e. p e.event) (drop (length entries) new)) ≡ true → list_any p (losses_of roles spares) ≡ false
none-told p entries new who end roles spares tail is none =
    let events = losses_of roles spares ++ tail in
    let last : drop (length entries) new ≡ entries_of who end events = ap (drop (length entries)) is ∙ drop-append_seam entries (entries_of who end events) in
    let quiet : list_any p events ≡ false = fails (list_any p events) (sym (ap not (ap (list_any (λ e. p e.event)) last ∙ any-entries p who end events)) ∙ none) in
    (no-both p (losses_of roles spares) tail quiet).0
  where
    fails : (b : Bool) → not b ≡ true → b ≡ false
    fails true is = absurd (cc)
    fails false is = refl

-- A step lowers the steps that are left, where its own lowers them by one, and its call enters what it lost in it.
pub steps-fewer : {given : Given} {old new : Members} {roles spares : ℕ} {before after : ℕ → ℕ} {entries entries' : List Entry} (work : Work) (left : ℕ) (who : Who) (end : ℕ) (tail : List Event)
    → IsMoved given old new → AreLostSince old new roles spares before after → left_of work old + 1 ≡ left → entries' ≡ entries ++ entries_of who end (losses_of roles spares ++ tail)
    → AreStepsFewer entries entries' left (left_of work new)
steps-fewer {roles = roles} {spares = spares} {entries = entries} {entries' = entries'} work left who end tail moved since less is = record {
  one = λ none. let same = left-quiet moved since work (none-told disturbs entries entries' who end roles spares tail is none) in omega (arith, same, less);
  some = λ none. let falls = left-falls moved since work (none-told is_lost_event entries entries' who end roles spares tail is none) in omega (arith, falls, less);
}

-- One that is refused leaves them, and its call enters what it lost.
pub steps-kept : {given : Given} {old new : Members} {roles spares : ℕ} {before after : ℕ → ℕ} {entries entries' : List Entry} (work : Work) (who : Who) (end : ℕ) (tail : List Event)
    → IsMoved given old new → AreLostSince old new roles spares before after → entries' ≡ entries ++ entries_of who end (losses_of roles spares ++ tail)
    → AreStepsKept entries entries' (left_of work old) (left_of work new)
steps-kept {roles = roles} {spares = spares} {entries = entries} {entries' = entries'} work who end tail moved since is = record {
  same = λ none. left-quiet moved since work (none-told disturbs entries entries' who end roles spares tail is none);
  fewer = λ none. left-falls moved since work (none-told is_lost_event entries entries' who end roles spares tail is none);
}

-- ---- a step of the resync

-- its next stripe is mended
pub left-mended : (work : Work) (members : Members) (mended : ℕ) → work.resync ≡ Some mended → mended < stripes_of members
    → left_of (record work { resync = Some (mended + 1) }) members + 1 ≡ left_of work members
left-mended work members mended is lt =
    let same = recovery-same (shape_of members.newest).disks (record work { resync = Some (mended + 1) }) work members members (λ role lt. refl) in
    let resync : resync_left work.resync members ≡ stripes_of members - mended + 1 = ap (λ (o : Option ℕ). resync_left o members) is in
    omega (arith, lt, same, resync)

-- it ends
pub left-ended : (work : Work) (members : Members) → work.resync ≡ Some (stripes_of members) → left_of (record work { resync = None }) members + 1 ≡ left_of work members
left-ended work members is =
    let same = recovery-same (shape_of members.newest).disks (record work { resync = None }) work members members (λ role lt. refl) in
    let resync : resync_left work.resync members ≡ stripes_of members - stripes_of members + 1 = ap (λ (o : Option ℕ). resync_left o members) is in
    omega (arith, same, resync)

-- ---- a step of a rebuild

-- one stripe more of a role is rebuilt on the slot that recovers it
pub left-filled : (work : Work) (members : Members) (role slot : ℕ) → role < (shape_of members.newest).disks → role < length work.rebuilt → role_state (reading_of members) role ≡ Recovering slot
    → rebuilt_of work role < stripes_of members → left_of (with_rebuilt role (rebuilt_of work role + 1) work) members + 1 ≡ left_of work members
left-filled work members role slot lt within is below =
    let next : Work = with_rebuilt role (rebuilt_of work role + 1) work in
    let here : rebuilt_of next role ≡ rebuilt_of work role + 1 = get_or-set_same work.rebuilt role (rebuilt_of work role + 1) 0 within in
    let now : role_left (stripes_of members) (rebuilt_of work role) (role_state (reading_of members) role) ≡ stripes_of members - rebuilt_of work role + 1 = ap (role_left (stripes_of members) (rebuilt_of work role)) is in
    let then : role_left (stripes_of members) (rebuilt_of next role) (role_state (reading_of members) role) ≡ stripes_of members - (rebuilt_of work role + 1) + 1 = ap₂ (role_left (stripes_of members)) here is in
    let less = recovery-less (shape_of members.newest).disks next work members members role 1 0 lt (omega (arith, below, now, then))
    (λ other o apart. ap (λ (n : ℕ). role_left (stripes_of members) n (role_state (reading_of members) other)) (get_or-set_other work.rebuilt role other (rebuilt_of work role + 1) 0 apart)) in
    omega (arith, less)

-- more of one and less of the other
waiting-less : (roles spares stripes fewer_roles fewer_spares : ℕ) → fewer_roles + 1 ≡ roles → fewer_spares + 1 ≡ spares → min fewer_roles fewer_spares * (stripes + 2) + (stripes + 2) ≡ min roles spares * (stripes + 2)
waiting-less roles spares stripes fewer_roles fewer_spares one other =
    sym (suc-mul (min fewer_roles fewer_spares) (stripes + 2))
    ∙ ap (λ (n : ℕ). n * (stripes + 2)) (suc-eq-add-one (min fewer_roles fewer_spares) ∙ sym (add-min-add_right fewer_roles fewer_spares 1) ∙ ap₂ min one other)

-- as many of a resync
resync-same : (members : Members) (role slot : ℕ) (state : Role) (recovery : Option ℕ) (resync : Option ℕ) → resync_left resync (with_state role state slot recovery members) ≡ resync_left resync members
resync-same members role slot state recovery None = refl
resync-same members role slot state recovery (Some mended) = refl

module _ (members : Members) (role slot : ℕ) (state : Role) (recovery : Option ℕ) (within : role < length members.roles) where
  abbrev then : Members
  then = with_state role state slot recovery members

  -- the role has that state, and each other has its own
  state-set : role_state (reading_of then) role ≡ state
  state-set = get_or-set_same members.roles role state Missing within

  state-kept : (other : ℕ) → other ≢ role → role_state (reading_of then) other ≡ role_state (reading_of members) other
  state-kept other apart = get_or-set_other members.roles role other state Missing apart

  -- the slot is no spare, and each other is one as before
  spare-kept : (other : ℕ) → other < 32 → has_spare then.spares other ≡ (has_spare members.spares other && not (slot == other))
  spare-kept other lt = has-slots_below (λ s. has_spare members.spares s && not (slot == s)) other 32 ∙ below (nat_lt other 32) (has_spare members.spares other && not (slot == other)) (grind (arith, nat_tests, lt))
    where
      below : (b c : Bool) → b ≡ true → (b && c) ≡ c
      below true c is = refl
      below false c is = absurd (cc)

both-fails : (a : Bool) (slot : ℕ) → (a && not (slot == slot)) ≡ false
both-fails a slot = grind (arith, nat_tests)

both-passes : (a : Bool) (slot other : ℕ) → other ≢ slot → (a && not (slot == other)) ≡ a
both-passes a slot other apart = grind (arith, nat_tests, apart)

both-either : (a : Bool) (slot other : ℕ) → (slot ≡ other → a ≡ false) → (a && not (slot == other)) ≡ a
both-either a slot other none = by (slot == other) a (λ is. none (eqb-true slot other is))
  where
    by : (b a : Bool) → (b ≡ true → a ≡ false) → (a && not b) ≡ a
    by true a none = let is = none refl in cc
    by false true none = refl
    by false false none = refl

-- a role that no slot holds is given to a spare
pub left-taken : (work : Work) (members : Members) (role slot : ℕ) → role < (shape_of members.newest).disks → role < length members.roles → role < length work.rebuilt
    → is_unassigned (reading_of members) role ≡ true → has_spare members.spares slot ≡ true → slot < 32
    → left_of (with_rebuilt role 0 work) (with_recovering role slot members) + 1 ≡ left_of work members
left-taken work members role slot lt within inside vacant spare few =
    let next : Work = with_rebuilt role 0 work in
    let then : Members = with_recovering role slot members in
    let disks = (shape_of members.newest).disks in
    let stripes = stripes_of members in
    let is : role_state (reading_of members) role ≡ Missing = missing (role_state (reading_of members) role) vacant in
    let set : role_state (reading_of then) role ≡ Recovering slot = state-set members role slot (Recovering slot) (Some 0) within in
    let keeps = state-kept members role slot (Recovering slot) (Some 0) within in
    let spares = spare-kept members role slot (Recovering slot) (Some 0) within in
    let now : role_left stripes (rebuilt_of work role) (role_state (reading_of members) role) ≡ 0 = ap (role_left stripes (rebuilt_of work role)) is in
    let rest : role_left stripes (rebuilt_of next role) (role_state (reading_of then) role) ≡ stripes - 0 + 1 = ap₂ (role_left stripes) (get_or-set_same work.rebuilt role 0 0 inside) set in
    let recovery = recovery-less disks next work then members role 0 (stripes + 1) lt (omega (arith, now, rest))
    (λ other o apart. ap₂ (role_left stripes) (get_or-set_other work.rebuilt role other 0 0 apart) (keeps other apart)) in
    let fewer = count-less disks (is_unassigned (reading_of members)) (is_unassigned (reading_of then)) role lt vacant (ap (λ (s : Role). not (is_some (holder s))) set)
    (λ other o apart. ap (λ (s : Role). not (is_some (holder s))) (keeps other apart)) in
    let taken = count-less 32 (has_spare members.spares) (has_spare then.spares) slot few spare (spares slot few ∙ both-fails (has_spare members.spares slot) slot)
    (λ other o apart. spares other o ∙ both-passes (has_spare members.spares other) slot other apart) in
    let waiting = waiting-less (vacant_count members) (spare_count members) stripes (vacant_count then) (spare_count then) fewer taken in
    let resync = resync-same members role slot (Recovering slot) (Some 0) work.resync in
    omega (arith, recovery, waiting, resync)
  where
    missing : (s : Role) → not (is_some (holder s)) ≡ true → s ≡ Missing
    missing Missing is = refl
    missing (Whole slot) is = absurd (cc)
    missing (Recovering slot) is = absurd (cc)

-- a role whose stripes are all rebuilt is made whole
pub left-whole : (work : Work) (members : Members) (role slot : ℕ) → role < (shape_of members.newest).disks → role < length members.roles → role_state (reading_of members) role ≡ Recovering slot
    → stripes_of members ≤ rebuilt_of work role → has_spare members.spares slot ≡ false → left_of work (with_whole role slot members) + 1 ≡ left_of work members
left-whole work members role slot lt within is all none =
    let then : Members = with_whole role slot members in
    let disks = (shape_of members.newest).disks in
    let stripes = stripes_of members in
    let set : role_state (reading_of then) role ≡ Whole slot = state-set members role slot (Whole slot) None within in
    let keeps = state-kept members role slot (Whole slot) None within in
    let spares = spare-kept members role slot (Whole slot) None within in
    let now : role_left stripes (rebuilt_of work role) (role_state (reading_of members) role) ≡ stripes - rebuilt_of work role + 1 = ap (role_left stripes (rebuilt_of work role)) is in
    let rest : role_left stripes (rebuilt_of work role) (role_state (reading_of then) role) ≡ 0 = ap (role_left stripes (rebuilt_of work role)) set in
    let recovery = recovery-less disks work work then members role 1 0 lt (omega (arith, all, now, rest))
    (λ other o apart. ap (role_left stripes (rebuilt_of work other)) (keeps other apart)) in
    let vacant : vacant_count then ≡ vacant_count members = count-agrees disks (is_unassigned (reading_of then)) (is_unassigned (reading_of members)) (λ other o. elim (cases_eq other role) [
      | inl same ↦ subst (λ (r : ℕ). is_unassigned (reading_of then) r ≡ is_unassigned (reading_of members) r) (sym same) (ap (λ (s : Role). not (is_some (holder s))) set ∙ sym (ap (λ (s : Role). not (is_some (holder s))) is))
      | inr apart ↦ ap (λ (s : Role). not (is_some (holder s))) (keeps other apart)
    ]) in
    let counted : spare_count then ≡ spare_count members = count-agrees 32 (has_spare then.spares) (has_spare members.spares)
    (λ other o. spares other o ∙ both-either (has_spare members.spares other) slot other (λ same. ap (has_spare members.spares) (sym same) ∙ none)) in
    let waiting : min (vacant_count then) (spare_count then) * (stripes + 2) ≡ min (vacant_count members) (spare_count members) * (stripes + 2) = ap (λ (n : ℕ). n * (stripes + 2)) (ap₂ min vacant counted) in
    let resync = resync-same members role slot (Whole slot) None work.resync in
    omega (arith, recovery, waiting, resync)
