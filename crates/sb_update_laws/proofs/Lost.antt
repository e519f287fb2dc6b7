-- The first round, in which the slot that gets a recovery offset is lost in its own write, by what images read.
use Rattle.std.proofs.Common.{◌≡◌, ◌≢◌, inl, inr, ⊎_elim, ℕ, ◌<◌, true, false, not, ◌&&◌, List, Option, Some, None, refl, sym, ◌∙◌, ap, subst}
use Rattle.sb_read_laws.specs.raid_types_Sectors.{Sector}
use Rattle.sb_read_laws.specs.raid_types_the_Role.{Role}
use Rattle.sb_read_laws.specs.raid_types_Shapes.{has_slot}
use Rattle.sb_read_laws.specs.sb_codec_the_Sb.{Sb}
use Rattle.sb_read_laws.specs.bank_Tape.{Contents, IsIn}
use Rattle.sb_read_laws.specs.sb_specs_the_Give.{Give}
use Rattle.sb_read_laws.specs.sb_specs_the_Give_TheVariants.{Same, Spare}
use Rattle.sb_read_laws.specs.sb_specs_the_Give_TheVariants as give
use Rattle.sb_read_laws.specs.sb_specs_the_Change.{Change}
use Rattle.sb_read_laws.specs.sb_specs_the_Members.{Members}
use Rattle.sb_read_laws.specs.sb_specs_Reading.{Scope}
use Rattle.sb_read_laws.specs.sb_specs_Update.{planned, give_of, own_in, is_recovery, planned_role}
use Rattle.sb_read_laws.specs.sb_specs_Updating.{AreOthersKept, AreRecoveriesKept}
use Rattle.sb_read_laws.specs.sb_specs_Reads.{IsReadAs, held_in}
use Rattle.sb_read_laws.specs.sb_specs_Held.{AreDrawn, AreHeld, said_by}
use Rattle.sb_read_laws.specs.sb_specs_Rounds.{Round, first_newest, IsRewriting, IsCaughtUpTo, IsReadInUpdate, IsReady}
use Rattle.sb_read_laws.specs.sb_specs_Losing.{IsLosing, IsTakingWithout}
use Rattle.sb_read_laws.proofs.sb_specs_ReadLists.{by_bool}
use Rattle.sb_read_laws.proofs.sb_specs_PlannedSb.{planned-of}
use Rattle.sb_read_laws.proofs.PlanFits.{IsNext, IsPlanScope, length-any, idle-number, known-numbers}
use Rattle.sb_read_laws.proofs.RoundReads.{left_set, planned_list}
use Rattle.sb_update_laws.proofs.LosingReads.{losing-reads}
use Rattle.sb_update_laws.proofs.Wide as wide

abbrev Disk : Type 0
Disk = ℕ → ℕ → List Sector

-- a slot that gets a recovery offset gets a role
pub role-of : (roles : List Role) (g : Give) (s : ℕ) → is_recovery g ≡ true → (role : ℕ) × (planned_role roles g s ≡ Some role)
role-of roles Same s is = absurd (cc)
role-of roles (give.Role role (Some offset)) s is = (role, refl)
role-of roles (give.Role role None) s is = absurd (cc)
role-of roles Spare s is = absurd (cc)

-- where the slots that are written are those that are planned for
pub all-scoped : (scope : Scope) (known lost left : ℕ) (members : Members) (change : Change) (former : Sb) (own : List (Option Sb)) (d : Disk) → AreHeld scope known lost former own d
    → ((s : ℕ) → has_slot left s ≡ true → has_slot known s ≡ true)
    → ((t : ℕ) (sb z : Sb) → has_slot left t ≡ true → own_in members.own t ≡ Some sb → own_in own t ≡ Some z → z.dev_number ≡ sb.dev_number)
    → IsPlanScope scope lost lost left left members change former d
all-scoped scope known lost left members change former own d held within one_device = record {
  more = λ s is. is;
  outer = λ s none kept. none;
  role = λ s t role none is_role is same. absurd (let both = sym none ∙ ap (has_slot left) same ∙ is in cc);
  numbers = λ s t a sb apart m fresh is own_is number.
      let k = held.each t (within t is) in
      known-numbers scope known lost former own d held s t a k.sb apart m fresh (within t is) k.own (one_device t sb k.sb is own_is k.own ∙ number);
}

module _ (scope : Scope) (members : Members) (change : Change) (before live known left0 : ℕ) (d : Disk) (ready : IsReady scope known left0 members change live d)
    (mid : Round) (caught : IsCaughtUpTo members.newest members.own live members.lost d mid) (gone slot : ℕ) (more : (s : ℕ) → has_slot mid.lost s ≡ true → has_slot gone s ≡ true)
    (only : (s : ℕ) → s ≢ slot → has_slot gone s ≡ true → has_slot mid.lost s ≡ true) (is_gone : has_slot gone slot ≡ true) (was : has_slot mid.lost slot ≡ false)
    (recovery : is_recovery (give_of change.gives slot) ≡ true) where
  same_mid : (s : ℕ) → has_slot mid.lost s ≡ true → has_slot mid.lost s ≡ true
  same_mid s is = is

  abbrev pub Newest : Sb
  Newest = first_newest members change before mid.lost members.newest

  abbrev pub Named : Sb
  Named = first_newest members change before gone members.newest

  abbrev pub Left : ℕ
  Left = left_set scope.sizes.slots live mid.lost

  abbrev pub Rest : ℕ
  Rest = left_set scope.sizes.slots live gone

  abbrev pub left_own : List (Option Sb)
  left_own = planned_list Newest change.gives members.own

  abbrev pub rest_own : List (Option Sb)
  rest_own = planned_list Named change.gives members.own

  pub slot_left : has_slot Left slot ≡ true
  slot_left =
      let role = role-of members.roles (give_of change.gives slot) slot recovery in
      wide.of_first scope members change before live known left0 d ready mid caught mid.lost same_mid slot was
      (ready.fits.role slot role.0 (wide.unlost scope members change before live known left0 d ready mid caught mid.lost same_mid slot was) role.1)

  pub slot_out : has_slot Rest slot ≡ false
  slot_out = ⊎_elim
      (λ is. absurd (let none = wide.left_kept scope members change before live known left0 d ready mid caught gone more slot is in let both = sym is_gone ∙ none in cc))
      (λ none. none) (by_bool (has_slot Rest slot))

  pub slot_known : has_slot known slot ≡ true
  slot_known = wide.sub scope members change before live known left0 d ready mid caught mid.lost same_mid slot slot_left

  same_lost : (s : ℕ) → s ≢ slot → has_slot gone s ≡ has_slot mid.lost s
  same_lost s differ = ⊎_elim (λ is. is ∙ sym (only s differ is)) (λ none. none ∙ sym (wide.outside mid.lost gone s (more s) none)) (by_bool (has_slot gone s))

  others : (s : ℕ) → s ≢ slot → has_slot Rest s ≡ has_slot Left s
  others s differ = wide.are scope members change before live known left0 d ready mid caught gone more s ∙ ap (λ b. has_slot live s && not b) (same_lost s differ)
      ∙ sym (wide.are scope members change before live known left0 d ready mid caught mid.lost same_mid s)

  pub rest_apart : (s : ℕ) → has_slot Rest s ≡ true → s ≢ slot
  rest_apart s is same = absurd (let both = sym (subst (λ (t : ℕ). has_slot Rest t ≡ true) same is) ∙ slot_out in cc)

  abbrev pub held : AreHeld scope known gone members.newest members.own mid.disk
  held = wide.held scope members change before live known left0 d ready mid caught gone more

  -- the number of another slot's device
  pub number_apart : (s : ℕ) (z sb : Sb) → has_slot Rest s ≡ true → own_in members.own s ≡ Some z → own_in members.own slot ≡ Some sb → z.dev_number ≢ sb.dev_number
  number_apart s z sb is own_is slot_is =
      let in_known = wide.sub scope members change before live known left0 d ready mid caught gone more s is in
      let k = held.each s in_known in
      let k' = held.each slot slot_known in
      let same : k.sb ≡ z = (let both : Some k.sb ≡ Some z = sym k.own ∙ own_is in cc) in
      let same' : k'.sb ≡ sb = (let both : Some k'.sb ≡ Some sb = sym k'.own ∙ slot_is in cc) in
      let numbers = held.apart s slot k.sb k'.sb (rest_apart s is) (inl (in_known, k.own)) (inl (slot_known, k'.own)) k.fresh k'.fresh in
      λ number. numbers (ap (λ (y : Sb). y.dev_number) same ∙ number ∙ sym (ap (λ (y : Sb). y.dev_number) same'))

  pub number_below : (sb : Sb) → own_in members.own slot ≡ Some sb → sb.dev_number < 128
  number_below sb is =
      let k = held.each slot slot_known in
      let same : k.sb ≡ sb = (let both : Some k.sb ≡ Some sb = sym k.own ∙ is in cc) in
      subst (λ (z : Sb). z.dev_number < 128) same k.number

  named_next : IsNext members change before gone members.newest Named
  named_next = record {
    roles = refl;
    room = refl;
    later = (wide.fit scope members change before live known left0 d ready mid caught gone more).later;
    size = ready.fits.size;
    fields = ready.fits.fields;
    count = refl;
  }

  -- by what names it the slot holds no role
  faulty : (sb : Sb) (role : ℕ) → own_in members.own slot ≡ Some sb → role < 16 → held_in Named role slot (Some (planned Newest (give_of change.gives slot) sb)) ≡ None
  faulty sb role is h =
      let number = (planned-of Newest sb (give_of change.gives slot)).number in
      idle-number scope known gone gone Rest Rest before members change members.newest Named members.own mid.disk held
      (wide.fits scope members change before live known left0 d ready mid caught gone more) named_next
      (all-scoped scope known gone Rest members change members.newest members.own mid.disk held (wide.sub scope members change before live known left0 d ready mid caught gone more)
      (λ t a z is_ own_is own_is'. let same : z ≡ a = (let both : Some z ≡ Some a = sym own_is' ∙ own_is in cc) in ap (λ (y : Sb). y.dev_number) same))
      slot (planned Newest (give_of change.gives slot) sb) (subst (λ (k : ℕ). k < 128) (sym number) (number_below sb is))
      (λ s r z planned_ is_ own_is same. number_apart s z sb is_ own_is is (same ∙ number)) role h

  pub losing : IsLosing scope known mid.lost gone Left Rest slot members.newest Newest Named change.gives members.own left_own rest_own mid.disk
  losing = record {
    round = record {
      held = wide.held scope members change before live known left0 d ready mid caught mid.lost same_mid;
      within = wide.sub scope members change before live known left0 d ready mid caught mid.lost same_mid;
      level = wide.level scope members change before live known left0 d ready mid caught mid.lost same_mid;
      fit = wide.fit scope members change before live known left0 d ready mid caught mid.lost same_mid;
      kept = wide.kept scope members change before live known left0 d ready mid caught mid.lost same_mid;
    };
    is_left = slot_left;
    recovery = recovery;
    out = slot_out;
    others = others;
    more = more;
    is_gone = is_gone;
    events = refl;
    fit = wide.fit scope members change before live known left0 d ready mid caught gone more;
    kept = wide.kept scope members change before live known left0 d ready mid caught gone more;
    faulty = faulty;
  }

  -- no other slot gets a recovery offset
  pub one_recovery : (s : ℕ) → s ≢ slot → has_slot live s ≡ true → has_slot mid.lost s ≡ false → is_recovery (give_of change.gives s) ≡ true → ⊥
  one_recovery s differ is none r =
      let in_left = wide.is_left scope members change before live known left0 d ready mid caught mid.lost same_mid s is none in
      differ ((wide.fit scope members change before live known left0 d ready mid caught mid.lost same_mid).one s slot in_left slot_left r recovery)

  -- its turns are over, and the others are written
  pub taking : (over e : Disk) → IsRewriting Newest change.gives members.own live mid.lost mid.disk over → AreOthersKept change.gives mid.disk over
      → IsRewriting Named change.gives members.own live gone over e → AreRecoveriesKept change.gives over e → IsTakingWithout Newest Named change.gives members.own Rest slot mid.disk e
  taking over e first kept_first then kept_then = record {
    half = λ v is_in. ⊎_elim (λ former. inl former) (λ w. inr w.2) (first.values slot v (subst (λ (l : List Sector). IsIn l v) (kept_then slot recovery) is_in));
    values = λ s v differ is_in. ⊎_elim
        (λ there. ⊎_elim
        (λ r. ⊎_elim (λ former. inl former) (λ w. absurd (one_recovery s differ w.0 w.1 r)) (first.values s v there))
        (λ none. inl (subst (λ (l : List Sector). IsIn l v) (kept_first s none) there))
        (by_bool (is_recovery (give_of change.gives s))))
        (λ w. inr (wide.is_left scope members change before live known left0 d ready mid caught gone more s w.0 w.1, w.2))
        (then.values s v is_in);
    ninth = λ s v is_in. first.ninth s v (then.ninth s v is_in);
  }

  -- an image reads so, where these slots are lost
  pub read_before : (c : Contents) → IsReadAs scope gone (said_by scope known members.own members.newest) c → IsReadInUpdate scope known members change before live gone c
  read_before c r = inl (record { lost = gone; more = λ s is. more s (caught.more s is); reads = r })

  pub read_planned : (lost : ℕ) (c : Contents) → IsReadAs scope lost (said_by scope Left left_own Newest) c → IsReadInUpdate scope known members change before live gone c
  read_planned lost c r = inr (record {
    newest = Newest;
    named = mid.lost;
    lost = lost;
    left = Left;
    own = left_own;
    are = wide.are scope members change before live known left0 d ready mid caught mid.lost same_mid;
    more = caught.more;
    within = more;
    later = wide.later scope members change before live known left0 d ready mid caught mid.lost same_mid;
    plan = (members.newest.dev_roles, refl);
    table = length-any members change before mid.lost members.newest.dev_roles ∙ ready.held.table;
    kept = wide.kept scope members change before live known left0 d ready mid caught mid.lost same_mid;
    reads = r;
  })

  pub read_named : (lost : ℕ) (c : Contents) → IsReadAs scope lost (said_by scope Rest rest_own Named) c → IsReadInUpdate scope known members change before live gone c
  read_named lost c r = inr (record {
    newest = Named;
    named = gone;
    lost = lost;
    left = Rest;
    own = rest_own;
    are = wide.are scope members change before live known left0 d ready mid caught gone more;
    more = λ s is. more s (caught.more s is);
    within = λ s is. is;
    later = wide.later scope members change before live known left0 d ready mid caught gone more;
    plan = (members.newest.dev_roles, refl);
    table = length-any members change before gone members.newest.dev_roles ∙ ready.held.table;
    kept = wide.kept scope members change before live known left0 d ready mid caught gone more;
    reads = r;
  })

  pub lost-reads : (e : Disk) (c : Contents) → IsTakingWithout Newest Named change.gives members.own Rest slot mid.disk e → AreDrawn e c → IsReadInUpdate scope known members change before live gone c
  lost-reads e c stage drawn = ⊎_elim
      (λ old. ⊎_elim (λ r. read_before c r) (λ r. read_named gone c r) old.1)
      (λ new. ⊎_elim (λ r. read_planned gone c r) (λ r. read_named gone c r) new)
      (losing-reads scope known mid.lost gone Left Rest slot members.newest Newest Named change.gives members.own left_own rest_own mid.disk losing e stage c drawn)
