-- Members in which the slot that is made whole was whole before, and a disk that holds no superblock of it yet.
use Rattle.std.proofs.Common.{◌≡◌, ◌≢◌, ◌⊎◌, inl, inr, ⊎_elim, ℕ, zero, suc, ◌+◌, ◌<◌, ◌≤◌, Bool, true, false, cond, ◌&&◌, nat_lt, List, [], drop, set, length, replicate, Option, Some, None, refl, sym, ◌∙◌, ap, subst, arith}
use Rattle.std.specs.Prelude.{nat_le, bytes_eq}
use Rattle.std.proofs.lemmas.Bool.{cases_eq, cases_lt}
use Rattle.std.proofs.lemmas.List.{get_or_past, get_or-set_same, get_or-set_other}
use Rattle.sb_read_laws.specs.raid_types_Sectors.{Sector}
use Rattle.sb_read_laws.specs.raid_types_Shapes.{has_slot}
use Rattle.sb_read_laws.specs.sb_codec_the_Sb.{Sb}
use Rattle.sb_read_laws.specs.bank_Tape.{Contents, IsIn}
use Rattle.sb_read_laws.specs.sb_specs_the_Give.{Give}
use Rattle.sb_read_laws.specs.sb_specs_the_Give_TheVariants.{Same}
use Rattle.sb_read_laws.specs.sb_specs_the_Give_TheVariants as give
use Rattle.sb_read_laws.specs.sb_specs_the_Change.{Change}
use Rattle.sb_read_laws.specs.sb_specs_the_Members.{Members}
use Rattle.sb_read_laws.specs.sb_specs_Reading.{Scope, is_fresh}
use Rattle.sb_read_laws.specs.sb_specs_Update.{planned, give_of, own_in, is_behind, planned_role, is_planned_spare, slot_entry, entry_for, with_entry, with_entries, with_roles}
use Rattle.sb_read_laws.specs.sb_specs_Writing.{IsPlanned}
use Rattle.sb_read_laws.specs.sb_specs_Reads.{IsSound}
use Rattle.sb_read_laws.specs.sb_specs_Held.{MayRead, IsKnown, Shows, AreHeld}
use Rattle.sb_read_laws.specs.sb_specs_Plans.{KeepsRecovery}
use Rattle.sb_read_laws.specs.sb_specs_Rounds.{Round, IsRewriting, IsCaughtUpTo, IsReady, IsReadAsPlanned}
use Rattle.sb_read_laws.proofs.sb_specs_Exact.{all_same}
use Rattle.sb_read_laws.proofs.sb_specs_PlannedSb.{planned-of, planned-new, joined_drop}
use Rattle.sb_read_laws.proofs.PlannedAgain.{planned-again}
use Rattle.sb_read_laws.proofs.sb_specs_UpdateReads.{fresh_less, planned-suited}
use Rattle.sb_read_laws.proofs.RoundReads.{and_first}
use Rattle.sb_update_laws.proofs.AddedReads.{put, put_here, put_slot, in_put}
use Rattle.sb_update_laws.specs.MakingWhole.{without_gives, IsMakingWhole}
use Rattle.sb_update_laws.proofs.OtherOwn.{put_round, put_other, from_ninth, to_ninth}

abbrev Disk : Type 0
Disk = ℕ → ℕ → List Sector

-- ---- the role entries are the same

-- of two slots' superblocks: the same, or such as have one device number
abbrev AreOfOneNumber : Option Sb → Option Sb → Type 0
AreOfOneNumber a b = (a ≡ b) ⊎ ((x : Sb) × (y : Sb) × (a ≡ Some x) × (b ≡ Some y) × (x.dev_number ≡ y.dev_number))

entry_of_number : (e : Option ℕ) (x y : Sb) (table : List ℕ) → x.dev_number ≡ y.dev_number → with_entry e (Some x) table ≡ with_entry e (Some y) table
entry_of_number None x y table same = refl
entry_of_number (Some e) x y table same = ap (λ (k : ℕ). cond (nat_lt k 128) (set table k e) table) same

entry-alike : (e : Option ℕ) (a b : Option Sb) (table : List ℕ) → AreOfOneNumber a b → with_entry e a table ≡ with_entry e b table
entry-alike e a b table alike = ⊎_elim (λ same. ap (λ (h : Option Sb). with_entry e h table) same)
    (λ two. ap (λ (h : Option Sb). with_entry e h table) two.2 ∙ entry_of_number e two.0 two.1 table two.4 ∙ sym (ap (λ (h : Option Sb). with_entry e h table) two.3)) alike

entries-alike : (f g : ℕ → Option ℕ) (a b : List (Option Sb)) (n : ℕ) (table : List ℕ) → ((s : ℕ) → f s ≡ g s) → ((s : ℕ) → AreOfOneNumber (own_in a s) (own_in b s))
    → with_entries f a n table ≡ with_entries g b n table
unfolding with_entries
entries-alike f g a b zero table same alike = refl
entries-alike f g a b (suc n) table same alike =
    (λ i. with_entry (same n i) (own_in a n) (entries-alike f g a b n table same alike i)) ∙ entry-alike (g n) (own_in a n) (own_in b n) (with_entries g b n table) (alike n)

role_alone : (before lost : Bool) (role : ℕ) (spare spare' : Bool) → slot_entry before lost (Some role) spare ≡ slot_entry before lost (Some role) spare'
role_alone true true role spare spare' = refl
role_alone false true role spare spare' = refl
role_alone true false role spare spare' = refl
role_alone false false role spare spare' = refl

module _ (members : Members) (change : Change) (slot role : ℕ) (making : IsMakingWhole members change slot role) where
  same_give : (s : ℕ) → s ≢ slot → give_of (replicate 32 Same) s ≡ give_of change.gives s
  same_give s apart = all_same 32 s ∙ sym (making.others s apart)

  abbrev entry_by : ℕ → ℕ → Give → Option ℕ
  entry_by before lost g = slot_entry (has_slot before slot) (has_slot lost slot) (planned_role members.roles g slot) (is_planned_spare members.spares change.added g slot)

  entry_here : (before lost : ℕ) → entry_for members (without_gives change) before lost slot ≡ entry_for members change before lost slot
  entry_here before lost =
      ap (entry_by before lost) (all_same 32 slot)
      ∙ ap (λ (r : Option ℕ). slot_entry (has_slot before slot) (has_slot lost slot) r (is_planned_spare members.spares change.added Same slot)) making.holds
      ∙ role_alone (has_slot before slot) (has_slot lost slot) role (is_planned_spare members.spares change.added Same slot) false
      ∙ sym (ap (entry_by before lost) making.gives)

  entry_same : (before lost s : ℕ) → entry_for members (without_gives change) before lost s ≡ entry_for members change before lost s
  entry_same before lost s = elim (cases_eq s slot) [
    | inl same ↦ subst (λ (t : ℕ). entry_for members (without_gives change) before lost t ≡ entry_for members change before lost t) (sym same) (entry_here before lost)
    | inr apart ↦ ap (λ (g : Give). slot_entry (has_slot before s) (has_slot lost s) (planned_role members.roles g s) (is_planned_spare members.spares change.added g s)) (same_give s apart)
  ]

  -- with the same superblocks
  pub roles_same : (before lost : ℕ) (table : List ℕ) → with_roles members (without_gives change) before lost table ≡ with_roles members change before lost table
  roles_same before lost table =
      entries-alike (entry_for members (without_gives change) before lost) (entry_for members change before lost) members.own members.own 32 _ (entry_same before lost) (λ s. inl refl)

  -- for the other slots the change without its gives plans the same
  pub other_world : (s : ℕ) (sb : Sb) → s ≢ slot → own_in members.own s ≡ Some sb
      → (z : Sb) × (own_in members.own s ≡ Some z) × ((newest : Sb) → planned newest (give_of (replicate 32 Same) s) z ≡ planned newest (give_of change.gives s) sb)
  other_world s sb apart is = (sb, is, λ newest. ap (λ (g : Give). planned newest g sb) (same_give s apart))

  -- ---- the members in which it was whole

  abbrev pub whole_own : List (Option Sb)
  whole_own = set members.own slot (Some (planned members.newest (give.Role role None) making.sb))

  abbrev pub whole_members : Members
  whole_members = record members { own = whole_own }

  there : slot < length members.own
  there = elim (cases_lt slot (length members.own)) [
    | inl below ↦ below
    | inr past ↦ absurd (let none : None ≡ Some making.sb = sym (get_or_past members.own slot None past) ∙ making.is in cc)
  ]

  pub own_slot : own_in whole_own slot ≡ Some (planned members.newest (give.Role role None) making.sb)
  own_slot = get_or-set_same members.own slot (Some (planned members.newest (give.Role role None) making.sb)) None there

  pub own_other : (s : ℕ) → s ≢ slot → own_in whole_own s ≡ own_in members.own s
  own_other s apart = get_or-set_other members.own slot s (Some (planned members.newest (give.Role role None) making.sb)) None apart

  pub whole_roles : (before lost : ℕ) (table : List ℕ) → with_roles whole_members (without_gives change) before lost table ≡ with_roles members change before lost table
  whole_roles before lost table =
      entries-alike (entry_for members (without_gives change) before lost) (entry_for members change before lost) whole_own members.own 32 _ (entry_same before lost) alike
    where
      alike : (s : ℕ) → AreOfOneNumber (own_in whole_own s) (own_in members.own s)
      alike s = elim (cases_eq s slot) [
        | inl same ↦ inr (
          planned members.newest (give.Role role None) making.sb,
          making.sb,
          ap (own_in whole_own) same ∙ own_slot,
          ap (own_in members.own) same ∙ making.is,
          (planned-of members.newest making.sb (give.Role role None)).number,
        )
        | inr apart ↦ inl (own_other s apart)
      ]

  -- for each slot it plans the same
  pub whole_world : 128 ≤ length members.newest.dev_roles → (s : ℕ) (sb : Sb) → Unit {0} → own_in members.own s ≡ Some sb
      → (z : Sb) × (own_in whole_own s ≡ Some z) × ((newest : Sb) → planned newest (give_of (replicate 32 Same) s) z ≡ planned newest (give_of change.gives s) sb)
  whole_world long s sb counts is = elim (cases_eq s slot) [
    | inl same ↦
        let it : making.sb ≡ sb = (let both : Some making.sb ≡ Some sb = sym making.is ∙ ap (own_in members.own) (sym same) ∙ is in cc) in (
          planned members.newest (give.Role role None) making.sb,
          ap (own_in whole_own) same ∙ own_slot,
          λ newest.
              ap (λ (g : Give). planned newest g (planned members.newest (give.Role role None) making.sb)) (all_same 32 s)
              ∙ planned-again members.newest newest making.sb (give.Role role None) long
              ∙ ap (λ (g : Give). planned newest g making.sb) (sym (ap (give_of change.gives) same ∙ making.gives))
              ∙ ap (planned newest (give_of change.gives s)) it,
        )
    | inr apart ↦ let w = other_world s sb apart is in (w.0, own_other s apart ∙ w.1, w.2)
  ]

-- ---- what they hold

-- a disk without a slot's values
pub less_read : (scope : Scope) (slot : ℕ) (d : Disk) (s : ℕ) (found : Option Sb) → MayRead scope (put slot [] d) s found → MayRead scope d s found
less_read scope slot d s found m = record {
  at = m.at;
  eighth = ⊎_elim (λ here. absurd here.1) (λ other. other.1) (in_put slot [] d s (m.at 8) m.eighth);
  ninth = from_ninth slot [] d s (m.at 9) m.ninth;
  is = m.is;
}

none_read : (scope : Scope) (slot : ℕ) (d : Disk) (found : Option Sb) → MayRead scope (put slot [] d) slot found → ⊥
none_read scope slot d found m = subst (λ (l : List Sector). IsIn l (m.at 8)) (put_here slot [] d) m.eighth

known_less : (scope : Scope) (newest : Sb) (held : Option Sb) (slot : ℕ) (d : Disk) (s : ℕ) → IsKnown scope newest held s d → IsKnown scope newest held s (put slot [] d)
known_less scope newest held slot d s k = record {
  sb = k.sb;
  own = k.own;
  reads = λ found m. k.reads found (less_read scope slot d s found m);
  second = λ sector is_in. k.second sector (from_ninth slot [] d s sector is_in);
  seen = k.seen;
  long = k.long;
  there = k.there;
  array = k.array;
  fresh = k.fresh;
  number = k.number;
  late = k.late;
  lies = k.lies;
  suited = k.suited;
}

-- another superblock of the slot, which no image has yet
known_planned : (scope : Scope) (newest : Sb) (held : Option Sb) (slot : ℕ) (d : Disk) (k : IsKnown scope newest held slot d) (g : Give) → IsSound newest → length newest.dev_roles ≡ 384
    → IsKnown scope newest (Some (planned newest g k.sb)) slot (put slot [] d)
known_planned scope newest held slot d k g sound table =
    let p : Sb = planned newest g k.sb in
    let of = planned-of newest k.sb g in
    let long : 128 ≤ length newest.dev_roles = omega (arith, table) in
    record {
      sb = p;
      own = refl;
      reads = λ found m. absurd (none_read scope slot d found m);
      second = λ sector is_in.
          let h = k.second sector (from_ninth slot [] d slot sector is_in) in
          record { long = h.long; bytes = h.bytes; entries = h.entries ∙ sym (ap (drop 128) of.roles ∙ joined_drop newest.dev_roles k.sb.dev_roles long) };
      seen = k.seen;
      long = k.long;
      there = k.there;
      array = ap (λ u. bytes_eq u scope.uuid) of.uuid ∙ k.array;
      fresh = fresh_less newest.events p.events (omega (arith, of.events));
      number = omega (arith, k.number, of.number);
      late = (planned-new newest k.sb p of long sound.room (k.suited.room k.fresh) k.late).late;
      lies = (λ i. nat_le 10 (of.start i) && nat_le (of.start i + newest.size) (scope.sizes.sectors slot)) ∙ k.lies;
      suited = planned-suited scope newest held slot d k sound table newest g refl long;
    }

module _ (scope : Scope) (known left : ℕ) (members : Members) (change : Change) (live slot role : ℕ) (d : Disk) (making : IsMakingWhole members change slot role)
    (ready : IsReady scope known left members (without_gives change) live d) (kept : has_slot members.lost slot ≡ false) where
  abbrev Own : List (Option Sb)
  Own = whole_own members change slot role making

  slot_left : has_slot left slot ≡ true
  slot_left = ready.fits.role slot role kept (ap (λ (g : Give). planned_role members.roles g slot) (all_same 32 slot) ∙ making.holds)

  pub slot_live : has_slot live slot ≡ true
  slot_live = and_first (has_slot live slot) (has_slot members.lost slot) (sym (ready.are slot) ∙ slot_left)

  slot_known : has_slot known slot ≡ true
  slot_known = ready.within slot slot_live

  own_is : (s : ℕ) → s ≢ slot → own_in Own s ≡ own_in members.own s
  own_is = own_other members change slot role making

  known_whole : IsKnown scope members.newest (own_in Own slot) slot (put slot [] d)
  known_whole =
      let k = ready.held.each slot slot_known in
      let same : k.sb ≡ making.sb = (let both : Some k.sb ≡ Some making.sb = sym k.own ∙ making.is in cc) in
      subst (λ (h : Option Sb). IsKnown scope members.newest h slot (put slot [] d))
      (ap (λ (z : Sb). Some (planned members.newest (give.Role role None) z)) same ∙ sym (own_slot members change slot role making))
      (known_planned scope members.newest (own_in members.own slot) slot d k (give.Role role None) ready.held.sound ready.held.table)

  each : (s : ℕ) → has_slot known s ≡ true → IsKnown scope members.newest (own_in Own s) s (put slot [] d)
  each s is = elim (cases_eq s slot) [
    | inl same ↦ subst (λ (t : ℕ). IsKnown scope members.newest (own_in Own t) t (put slot [] d)) (sym same) known_whole
    | inr apart ↦ subst (λ (h : Option Sb). IsKnown scope members.newest h s (put slot [] d)) (sym (own_is s apart)) (known_less scope members.newest (own_in members.own s) slot d s (ready.held.each s is))
  ]

  shows : (s : ℕ) (a : Sb) → Shows scope known Own (put slot [] d) s a → is_fresh members.newest a ≡ true
      → (z : Sb) × Shows scope known members.own d s z × (is_fresh members.newest z ≡ true) × (z.dev_number ≡ a.dev_number)
  shows s a (inr (none, m)) fresh = (a, inr (none, less_read scope slot d s (Some a) m), fresh, refl)
  shows s a (inl (is, own_a)) fresh = elim (cases_eq s slot) [
    | inl same ↦
        let k = ready.held.each s is in
        let it : planned members.newest (give.Role role None) making.sb ≡ a = (let both : Some (planned members.newest (give.Role role None) making.sb) ≡ Some a
        = sym (own_slot members change slot role making) ∙ ap (own_in Own) (sym same) ∙ own_a in cc) in
        let was : k.sb ≡ making.sb = (let both : Some k.sb ≡ Some making.sb = sym k.own ∙ ap (own_in members.own) same ∙ making.is in cc) in (
          k.sb,
          inl (is, k.own),
          k.fresh,
          ap (λ (z : Sb). z.dev_number) was ∙ sym (planned-of members.newest making.sb (give.Role role None)).number ∙ ap (λ (z : Sb). z.dev_number) it,
        )
    | inr apart ↦ (a, inl (is, sym (own_is s apart) ∙ own_a), fresh, refl)
  ]

  whole_held : AreHeld scope known members.lost members.newest Own (put slot [] d)
  whole_held = record {
    sound = ready.held.sound;
    table = ready.held.table;
    each = each;
    others = λ s below none.
        let o = ready.held.others s below none in
        record {
          suited = λ sb m. o.suited sb (less_read scope slot d s (Some sb) m);
          role = λ r found h m. o.role r found h (less_read scope slot d s found m);
          spare = λ found free m. o.spare found free (less_read scope slot d s found m);
        };
    top = (ready.held.top.0, ready.held.top.1, λ found m. ready.held.top.2 found (less_read scope slot d ready.held.top.0 found m));
    first = λ s sb f. ready.held.first s sb (record {
      there = f.there;
      shown = f.shown;
      may = λ t low. less_read scope slot d t (f.shown t) (f.may t low);
      is = f.is;
      events = f.events;
      none = f.none;
    });
    apart = λ s t a b differ p q fresh fresh'.
        let x = shows s a p fresh in
        let y = shows t b q fresh' in
        let numbers = ready.held.apart s t x.0 y.0 differ x.1 y.1 x.2 y.2 in
        λ same. numbers (x.3 ∙ same ∙ sym y.3);
  }

  pub whole_ready : IsReady scope known left (whole_members members change slot role making) (without_gives change) live (put slot [] d)
  whole_ready = record {
    held = whole_held;
    are = ready.are;
    within = ready.within;
    exact = λ s sb found is own_sb m. elim (cases_eq s slot) [
      | inl same ↦ absurd (none_read scope slot d found (subst (λ (t : ℕ). MayRead scope (put slot [] d) t found) same m))
      | inr apart ↦ ready.exact s sb found is (sym (own_is s apart) ∙ own_sb) (less_read scope slot d s found m)
    ];
    fits = record {
      role = ready.fits.role;
      below = ready.fits.below;
      spare = ready.fits.spare;
      one_holder = ready.fits.one_holder;
      fields = ready.fits.fields;
      size = ready.fits.size;
      written = ready.fits.written;
      devices = λ s sb is own_sb. subst (λ (g : Give). KeepsRecovery g sb) (sym (all_same 32 s)) tt;
      one = ready.fits.one;
    };
    fields = ready.fields;
  }

  module _ (mid : Round) (caught : IsCaughtUpTo members.newest members.own live members.lost d mid) (not_lost : has_slot mid.lost slot ≡ false) where
    pub whole_caught : IsCaughtUpTo members.newest Own live members.lost (put slot [] d) (put_round slot [] mid)
    whole_caught = record {
      newest = caught.newest;
      stage = record {
        values = λ s v held. ⊎_elim (λ here. absurd here.1)
            (λ other. ⊎_elim (λ was. inl (put_other slot [] d s v other.0 was))
            (λ w. inr (w.0, w.1, subst (λ (h : Option Sb). IsPlanned members.newest (give_of (replicate 32 Same) s) h v) (sym (own_is s other.0)) w.2)) (caught.stage.values s v other.1))
            (in_put slot [] mid.disk s v held);
        ninth = λ s v held. to_ninth slot [] d s v (caught.stage.ninth s v (from_ninth slot [] mid.disk s v held));
      };
      level = λ s is none v held. ⊎_elim (λ here. absurd here.1)
          (λ other. ⊎_elim (λ was. inl (ap (is_behind members.newest) (own_is s other.0) ∙ was.0, put_other slot [] d s v other.0 was.1))
          (λ plan. inr (subst (λ (h : Option Sb). IsPlanned members.newest Same h v) (sym (own_is s other.0)) plan)) (caught.level s is none v other.1))
          (in_put slot [] mid.disk s v held);
      more = caught.more;
      still = λ s ahead. elim (cases_eq s slot) [
        | inl same ↦ subst (λ (t : ℕ). put slot [] mid.disk t 8 ≡ put slot [] d t 8) (sym same) (put_here slot [] mid.disk ∙ sym (put_here slot [] d))
        | inr apart ↦ put_slot slot [] mid.disk s 8 apart ∙ caught.still s (ap (is_behind members.newest) (sym (own_is s apart)) ∙ ahead) ∙ sym (put_slot slot [] d s 8 apart)
      ];
      due = λ s gone free. elim (cases_eq s slot) [
        | inl same ↦ absurd (let both = sym gone ∙ ap (has_slot mid.lost) same ∙ not_lost in cc)
        | inr apart ↦ ap (is_behind members.newest) (own_is s apart) ∙ caught.due s gone free
      ];
    }

    -- what was written, where the slot holds what is planned alone
    pub whole_stage : (newest : Sb) (e : Disk) → IsRewriting newest change.gives members.own live mid.lost mid.disk e
        → ((v : Sector) → IsIn (e slot 8) v → (has_slot live slot ≡ true) × (has_slot mid.lost slot ≡ false) × IsPlanned newest (give_of change.gives slot) (own_in members.own slot) v)
        → ((s : ℕ) (v : Sector) → IsPlanned newest (give_of change.gives s) (own_in members.own s) v → IsPlanned newest (give_of (replicate 32 Same) s) (own_in Own s) v)
        → IsRewriting newest (replicate 32 Same) Own live mid.lost (put slot [] mid.disk) e
    whole_stage newest e stage new over = record {
      values = λ s v held. elim (cases_eq s slot) [
        | inl same ↦
            let w = new v (subst (λ (t : ℕ). IsIn (e t 8) v) same held) in
            inr (
              ap (has_slot live) same ∙ w.0,
              ap (has_slot mid.lost) same ∙ w.1,
              over s v (subst (λ (t : ℕ). IsPlanned newest (give_of change.gives t) (own_in members.own t) v) (sym same) w.2),
            )
        | inr apart ↦ ⊎_elim (λ was. inl (put_other slot [] mid.disk s v apart was)) (λ w. inr (w.0, w.1, over s v w.2)) (stage.values s v held)
      ];
      ninth = λ s v held. to_ninth slot [] mid.disk s v (stage.ninth s v held);
    }

-- ---- what images read

pub planned-back : (scope : Scope) (members : Members) (change : Change) (before live slot role last : ℕ) (making : IsMakingWhole members change slot role) (c : Contents) → 128 ≤ length members.newest.dev_roles
    → IsReadAsPlanned scope (whole_members members change slot role making) (without_gives change) before live last c → IsReadAsPlanned scope members change before live last c
planned-back scope members change before live slot role last making c long r = record {
  newest = r.newest;
  named = r.named;
  lost = r.lost;
  left = r.left;
  own = r.own;
  are = r.are;
  more = r.more;
  within = r.within;
  later = r.later;
  table = r.table;
  plan = (r.plan.0, r.plan.1 ∙ whole_roles members change slot role making before r.named r.plan.0);
  kept = λ s sb is own_sb.
      let w = whole_world members change slot role making long s sb tt own_sb in
      let y = r.kept s w.0 is w.1 in
      (y.0, y.1 ∙ ap (λ (z : Sb). Some (record z { sb_csum = y.0 })) (w.2 r.newest));
  reads = r.reads;
}
