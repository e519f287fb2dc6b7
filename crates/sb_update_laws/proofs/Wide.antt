-- Once slots were brought to the newest event count, and more slots are lost: what is held, and the plan that names them.
use Rattle.std.proofs.Common.{◌≡◌, inl, inr, ⊎_elim, ℕ, ◌<◌, ◌≤◌, true, false, not, ◌&&◌, nat_lt, List, replicate, Some, refl, sym, ◌∙◌, ap, subst, le_refl, arith}
use Rattle.std.proofs.lemmas.Bool.Decides.{nat_tests}
use Rattle.sb_read_laws.specs.raid_types_Sectors.{Sector}
use Rattle.sb_read_laws.specs.raid_types_Shapes.{has_slot}
use Rattle.sb_read_laws.specs.sb_codec_the_Sb.{Sb}
use Rattle.sb_read_laws.specs.sb_specs_the_Give.{Give}
use Rattle.sb_read_laws.specs.sb_specs_the_Give_TheVariants.{Same}
use Rattle.sb_read_laws.specs.sb_specs_the_Change.{Change}
use Rattle.sb_read_laws.specs.sb_specs_the_Members.{Members}
use Rattle.sb_read_laws.specs.sb_specs_Reading.{Scope}
use Rattle.sb_read_laws.specs.sb_specs_Update.{planned, give_of, own_in, is_behind}
use Rattle.sb_read_laws.specs.sb_specs_Writing.{IsPlanned}
use Rattle.sb_read_laws.specs.sb_specs_Updating.{planned_newest, IsLater}
use Rattle.sb_read_laws.specs.sb_specs_Held.{AreHeld, AreLevel}
use Rattle.sb_read_laws.specs.sb_specs_Stages.{AreLeft, IsCatchingUp, IsFitPlan, AreKept}
use Rattle.sb_read_laws.specs.sb_specs_Plans.{IsFitChange}
use Rattle.sb_read_laws.specs.sb_specs_Rounds.{Round, first_newest, IsRewriting, IsCaughtUpTo, IsReady}
use Rattle.sb_read_laws.proofs.sb_specs_ReadLists.{by_bool}
use Rattle.sb_read_laws.proofs.sb_specs_Exact.{all_same}
use Rattle.sb_read_laws.proofs.PlanFits.{plan-fits}
use Rattle.sb_read_laws.proofs.StageReads.{caught_of, caught-held}
use Rattle.sb_read_laws.proofs.RoundReads.{left_set, left-are, and_first, and_second, planned_list, planned-in, kept-of}
use Rattle.sb_read_laws.proofs.RoundsRead.{more-held}

abbrev Disk : Type 0
Disk = ℕ → ℕ → List Sector

equal : (a b : ℕ) → nat_lt a b ≡ false → a ≤ b → a ≡ b
equal a b h le = grind (arith, nat_tests)

-- a slot that isn't in the larger set isn't in the smaller
pub outside : (set other s : ℕ) → (has_slot set s ≡ true → has_slot other s ≡ true) → has_slot other s ≡ false → has_slot set s ≡ false
outside set other s more none = ⊎_elim (λ is. absurd (let both = sym (more is) ∙ none in cc)) (λ is. is) (by_bool (has_slot set s))

module _ (scope : Scope) (members : Members) (change : Change) (before live known left0 : ℕ) (d : Disk) (ready : IsReady scope known left0 members change live d) where
  pub there : (s : ℕ) → has_slot live s ≡ true → s < scope.sizes.slots
  there s is = (ready.held.each s (ready.within s is)).there

  first_live : (s : ℕ) → has_slot left0 s ≡ true → has_slot live s ≡ true
  first_live s is = and_first (has_slot live s) (has_slot members.lost s) (sym (ready.are s) ∙ is)

  first_within : (s : ℕ) → has_slot left0 s ≡ true → has_slot known s ≡ true
  first_within s is = ready.within s (first_live s is)

  catching : (e : Disk) → IsRewriting members.newest (replicate 32 Same) members.own live members.lost d e → IsCatchingUp members.newest members.own left0 d e
  catching e stage = record {
    values = λ s v held. ⊎_elim (λ was. inl was)
        (λ w. inr (ready.are s ∙ (λ i. w.0 i && not (w.1 i)), subst (λ (g : Give). IsPlanned members.newest g (own_in members.own s) v) (all_same 32 s) w.2)) (stage.values s v held);
    ninth = stage.ninth;
  }

  module _ (mid : Round) (caught : IsCaughtUpTo members.newest members.own live members.lost d mid) (gone : ℕ) (more : (s : ℕ) → has_slot mid.lost s ≡ true → has_slot gone s ≡ true) where
    -- the live slots that are left
    abbrev pub left_in : ℕ
    left_in = left_set scope.sizes.slots live gone

    pub held : AreHeld scope known gone members.newest members.own mid.disk
    held = more-held scope known members.lost gone members.newest members.own mid.disk (λ s is. more s (caught.more s is))
        (caught-held scope known members.lost members.newest members.own d ready.held left0 first_within mid.disk (catching mid.disk caught.stage))

    pub are : AreLeft live gone (left_set scope.sizes.slots live gone)
    are = left-are scope.sizes.slots live gone there

    pub left_live : (s : ℕ) → has_slot (left_set scope.sizes.slots live gone) s ≡ true → has_slot live s ≡ true
    left_live s is = and_first (has_slot live s) (has_slot gone s) (sym (are s) ∙ is)

    pub left_kept : (s : ℕ) → has_slot (left_set scope.sizes.slots live gone) s ≡ true → has_slot gone s ≡ false
    left_kept s is = and_second (has_slot live s) (has_slot gone s) (sym (are s) ∙ is)

    pub is_left : (s : ℕ) → has_slot live s ≡ true → has_slot gone s ≡ false → has_slot (left_set scope.sizes.slots live gone) s ≡ true
    is_left s is none = are s ∙ (λ i. is i && not (none i))

    pub sub : (s : ℕ) → has_slot (left_set scope.sizes.slots live gone) s ≡ true → has_slot known s ≡ true
    sub s is = ready.within s (left_live s is)

    pub unlost : (s : ℕ) → has_slot gone s ≡ false → has_slot members.lost s ≡ false
    unlost s none = outside members.lost gone s (λ is. more s (caught.more s is)) none

    pub left_first : (s : ℕ) → has_slot (left_set scope.sizes.slots live gone) s ≡ true → has_slot left0 s ≡ true
    left_first s is = ready.are s ∙ (λ i. left_live s is i && not (unlost s (left_kept s is) i))

    pub of_first : (s : ℕ) → has_slot gone s ≡ false → has_slot left0 s ≡ true → has_slot (left_set scope.sizes.slots live gone) s ≡ true
    of_first s none is = is_left s (first_live s is) none

    pub level : AreLevel scope (left_set scope.sizes.slots live gone) members.newest mid.disk
    level s found is m =
        let k = ready.held.each s (sub s is) in
        ⊎_elim
        (λ was.
        let x = ready.exact s k.sb found (left_first s is) k.own (record { at = m.at; eighth = was.1; ninth = caught.stage.ninth s (m.at 9) m.ninth; is = m.is }) in
        (record k.sb { sb_csum = x.0 }, x.1, equal k.sb.events members.newest.events (sym (ap (is_behind members.newest) k.own) ∙ was.0) k.suited.events))
        (λ plan.
        let r = caught_of scope known members.lost members.newest members.own d ready.held left0 first_within s (sub s is) m.at plan (caught.stage.ninth s (m.at 9) m.ninth) in
        (record r.0 { sb_csum = r.1.0 }, sym m.is ∙ r.1.1, r.3))
        (caught.level s (left_live s is) (outside mid.lost gone s (more s) (left_kept s is)) (m.at 8) m.eighth)

    pub fits : IsFitChange known gone (left_set scope.sizes.slots live gone) members change
    fits = record {
      role = λ s role none is. of_first s none (ready.fits.role s role (unlost s none) is);
      below = λ s role none is. ready.fits.below s role (unlost s none) is;
      spare = λ s none is. of_first s none (ready.fits.spare s (unlost s none) is);
      one_holder = λ s t role none none' is is'. ready.fits.one_holder s t role (unlost s none) (unlost t none') is is';
      fields = ready.fits.fields;
      size = ready.fits.size;
      written = λ s is none. of_first s none (ready.fits.written s is (unlost s none));
      devices = λ s sb is own_is. ready.fits.devices s sb (left_first s is) own_is;
      one = λ s t is is' r r'. ready.fits.one s t (left_first s is) (left_first t is') r r';
    }

    -- what is planned, which names those that are lost
    pub fit : IsFitPlan scope gone members.newest (first_newest members change before gone members.newest) change.gives members.own (left_set scope.sizes.slots live gone) mid.disk
    fit = plan-fits scope known gone (left_set scope.sizes.slots live gone) before members change mid.disk held sub fits

    pub own_next : (s : ℕ) (sb : Sb) → own_in members.own s ≡ Some sb → own_in (planned_list (first_newest members change before gone members.newest) change.gives members.own) s
        ≡ Some (planned (first_newest members change before gone members.newest) (give_of change.gives s) sb)
    own_next s sb own_is = planned-in (first_newest members change before gone members.newest) change.gives members.own s sb own_is

    pub kept : AreKept (first_newest members change before gone members.newest) change.gives members.own (left_set scope.sizes.slots live gone)
        (planned_list (first_newest members change before gone members.newest) change.gives members.own)
    kept = kept-of (first_newest members change before gone members.newest) change.gives members.own (planned_list (first_newest members change before gone members.newest) change.gives members.own)
        (left_set scope.sizes.slots live gone) (λ s sb is own_is. own_next s sb own_is)

    pub later : IsLater (planned_newest change.shared members.newest) (first_newest members change before gone members.newest)
    later = record { events = le_refl _; same = refl }
