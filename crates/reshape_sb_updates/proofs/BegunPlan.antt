-- The change that begins a reshape is what the laws of a begin ask for.
use Rattle.std.proofs.Common.{◌≡◌, inl, inr, ℕ, ◌+◌, ◌<◌, ◌≤◌, false, Bool, cond, max, length, Option, Some, None, unwrap_or, get_or, refl, sym, ◌∙◌, ap, subst, arith}
use Rattle.std.proofs.lemmas.List.{get_or_past}
use Rattle.sb_update.specs.raid_types_the_Shape.{Shape}
use Rattle.sb_update.specs.raid_types_the_Role_TheVariants.{Missing}
use Rattle.sb_update.specs.raid_types_Search.{count_below}
use Rattle.sb_update.specs.sb_codec_the_Sb.{Sb}
use Rattle.sb_update.specs.reshape_geometry_Geometry.{AreInForce}
use Rattle.sb_update.proofs.raid_layout_Limits.{limited}
use Rattle.sb_update.specs.sb_specs_the_Give_TheVariants as give
use Rattle.sb_update.specs.sb_specs_the_Members.{Members}
use Rattle.sb_update.specs.sb_specs_Reading.{is_reshaping, shape_of, final_shape, role_count, holder}
use Rattle.sb_update.specs.sb_specs_Reads.{SaysSame, has_spare}
use Rattle.sb_update.specs.sb_specs_Update.{IsRoleGive, give_of, is_recovery}
use Rattle.sb_update.specs.sb_specs_Updating.{planned_newest}
use Rattle.crash_reshape_laws.specs.crash_views_Regions.{AreShapesFit}
use Rattle.crash_reshape_laws.proofs.crash_views_Alike.{shape-alike, final-alike, length-alike}
use Rattle.crash_reshape_laws.specs.crash_safety_laws_Kinds.{IsTaking}
use Rattle.crash_reshape_laws.specs.Flushed.{IsBeginning}
use Rattle.crash_reshape_laws.specs.crash_safety_laws_Updates.{planned_view}
use Rattle.crash_reshape_laws.proofs.crash_safety_laws_PlannedRoles.{says-shared}
use Rattle.crash_reshape_laws.proofs.crash_safety_laws_KeptSafe.{fits-alike}
use Rattle.crash_reshape_laws.specs.Ends.{IsBegun}
use Rattle.crash_reshape_laws.proofs.PlanRoles.{planned-begun}
use Rattle.reshape_sb_updates.specs.Beginning.{HasBegun, beginning}
use Rattle.reshape_sb_updates.proofs.BegunNewest.{active, old-shape, start, has-begun, count-is, fits}
use Rattle.reshape_sb_updates.proofs.NewRoles.{IsGivenNew, new-or, new-given, new-apart, new-taken}

-- what says the same has begun too
pub begun-alike : (former M N : Sb) (to : Shape) → SaysSame M N → HasBegun former to M → HasBegun former to N
begun-alike former M N to a b = record {
  active = sym a.reshaping ∙ b.active;
  old = sym (shape-alike M N a) ∙ b.old;
  new = sym (final-alike M N a) ∙ b.new;
  backward = sym a.backward ∙ b.backward;
  start = sym a.reshape_position ∙ b.start ∙ (λ i. cond (a.backward i) (length-alike M N a i) 0);
  size = sym a.size ∙ b.size;
  clean = sym a.resync_offset ∙ b.clean;
}

module _ (old : Members) (to : Shape) (still : is_reshaping old.newest ≡ false) (roles : length old.roles ≡ (shape_of old.newest).disks)
    (forced : AreInForce (shape_of old.newest) to old.newest.size) (level : to.level ≡ old.newest.level) where
  abbrev first : ℕ
  first = (shape_of old.newest).disks

  final-is : final_shape old.newest ≡ shape_of old.newest
  final-is = ap (λ (b : Bool). unwrap_or (cond b (Some (record { level = old.newest.new_level; layout = old.newest.new_layout; chunk = old.newest.new_chunk; disks = old.newest.raid_disks })) None) (shape_of old.newest)) still

  old-count : role_count old.newest ≡ max first first
  old-count = ap (λ (s : Shape). max first s.disks) final-is

  pub new-count : role_count (beginning old to).shared ≡ max first to.disks
  new-count = count-is old.newest to still forced level

  pub few : role_count (beginning old to).shared ≤ 16
  few =
      let a = (limited (shape_of old.newest) forced.old_valid).most in
      let b = (limited to forced.new_valid).most in
      let n = new-count in
      omega (arith, a, b, n)

  pub given-roles : (s : ℕ) → IsRoleGive (give_of (beginning old to).gives s)
  given-roles s = elim (new-or old.spares first to.disks s) [
    | inl same ↦ subst IsRoleGive (sym same) tt
    | inr (role, new) ↦ subst IsRoleGive (sym new.gets) (let b = (limited to forced.new_valid).most in let lt = new.below in omega (arith, b, lt))
  ]

  -- no slot holds a new role
  vacant : (role : ℕ) → first ≤ role → (t : ℕ) → holder (get_or old.roles role Missing) ≡ Some t → ⊥
  vacant role from t held = absurd (
      let none : ◌≡◌ {A = Option ℕ} None (Some t) = sym (ap holder (get_or_past old.roles role Missing (omega (arith, roles, from)))) ∙ held in
      cc
      )

  pub taking : IsTaking old (beginning old to)
  taking = record {
    none = refl;
    size = refl;
    count = (let a = old-count in let b = new-count in omega (arith, a, b));
    each = λ s. elim (new-or old.spares first to.disks s) [
      | inl same ↦ inl same
      | inr (role, new) ↦ inr (inl (
        role,
        None,
        new.gets,
        new.spare,
        (let b = new-count in let lt = new.below in omega (arith, b, lt)),
        λ t kept. vacant role (let mine = new.mine in omega (arith, mine)) t,
      ))
    ];
    apart = λ s t role a b one two. new-apart old.spares first to.disks s t role (new-given old.spares first to.disks s role a one).0 (new-given old.spares first to.disks t role b two).0;
    one = λ s t first' second. absurd (let none = no-recovery s in let clash = sym none ∙ first' in cc);
  }
    where
      no-recovery : (s : ℕ) → is_recovery (give_of (beginning old to).gives s) ≡ false
      no-recovery s = elim (new-or old.spares first to.disks s) [ inl same ↦ ap is_recovery same | inr (role, new) ↦ ap is_recovery new.gets ]

  pub from-first : (s role : ℕ) (recovery : Option ℕ) → give_of (beginning old to).gives s ≡ give.Role role recovery → first ≤ role
  from-first s role recovery gets = (let mine = (new-given old.spares first to.disks s role recovery gets).0.mine in omega (arith, mine))

  pub is-beginning : IsBeginning old (beginning old to)
  is-beginning = record {
    taking = taking;
    still = still;
    active = active old.newest to still forced level;
    start = start old.newest to still forced level;
    shape = old-shape old.newest to still forced level;
    clean = refl;
    fresh = from-first;
  }

  pub planned-begun-is : HasBegun old.newest to (planned_newest (beginning old to).shared old.newest)
  planned-begun-is = begun-alike old.newest (beginning old to).shared (planned_newest (beginning old to).shared old.newest) to (says-shared old (beginning old to)) (has-begun old.newest to still forced level)

  pub planned-fits-is : AreShapesFit (planned_newest (beginning old to).shared old.newest)
  planned-fits-is = fits-alike (beginning old to).shared (planned_newest (beginning old to).shared old.newest) (says-shared old (beginning old to)) (fits old.newest to still forced level)

  pub is-begun : (named : ℕ) → IsBegun old (planned_view old (beginning old to) named)
  is-begun named = planned-begun old (beginning old to) named (record { size = refl; clean = refl }) still planned-begun-is.active planned-begun-is.old planned-begun-is.start from-first

  pub new-roles-are-taken : to.disks ≤ first + count_below 32 (has_spare old.spares) → (role : ℕ) → first ≤ role → role < to.disks → (slot : ℕ) × IsGivenNew old.spares first to.disks slot role
  new-roles-are-taken enough role from below = new-taken old.spares first to.disks role from below enough
