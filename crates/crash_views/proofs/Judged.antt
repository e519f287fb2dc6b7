-- An image that is read as a view that is right is judged rightly, whether it is of one shape or of two.
use Rattle.std.proofs.Common.{◌≡◌, zero, suc, ℕ, ◌+◌, ◌-◌, ◌<◌, ◌≤◌, ◌⊎◌, inl, inr, Bool, true, false, not, ◌&&◌, cond, nat_lt, nat_le, List, [], length, Option, Some, None, unwrap_or, option_map, refl, sym, ◌∙◌, ap, subst, arith}
use Rattle.std.specs.Prelude.{find, slice_index_or}
use Rattle.std.specs.Option.{option_or}
use Rattle.std.proofs.lemmas.Bool.Decides.{nat_tests}
use Rattle.history.specs.raid_types_the_Refusal_TheVariants.{MembersMissing, DirtyDegraded}
use Rattle.history.specs.raid_types_the_Shape.{Shape}
use Rattle.history.specs.raid_types_the_Span.{Span}
use Rattle.history.specs.raid_types_Sectors.{Sector}
use Rattle.history.specs.raid_types_the_Role.{Role}
use Rattle.history.specs.raid_types_the_Role_TheVariants.{Whole, Recovering, Missing}
use Rattle.history.specs.raid_types_Search.{least_below}
use Rattle.history.specs.raid_types_Shapes.{tolerance}
use Rattle.history.specs.bank_Given.{Given}
use Rattle.history.specs.bank_Tape.{Contents, IsDrawn, IsIn}
use Rattle.history.proofs.bank_Images.{image-drawn}
use Rattle.history.specs.raid_layout_Layout.{row_roles, is_parity_only}
use Rattle.stripe_list.proofs.raid_layout_Limits.{limited}
use Rattle.stripe_list.proofs.raid_layout_OnlyParity.{parity_only-all}
use Rattle.history.specs.raid_parity_Parity.{fill}
use Rattle.history.specs.sb_specs_the_Members.{Members}
use Rattle.history.specs.sb_specs_Reading.{is_clean, shape_of, target_of, final_shape, shapes_in_force, role_count, list_length, data_offset_of, role_state, holder, is_whole}
use Rattle.history.specs.sb_specs_Verdict.{dirty_degraded, missing_count, too_many, holds_data}
use Rattle.history.specs.sb_specs_Verdict as verdicts
use Rattle.history.proofs.sb_specs_ReadAlike.{none_below}
use Rattle.stripe_list.specs.stripe_row_Rows.{reading_of, is_missing, is_held, held_slot, held_sector, held_row, IsTolerated}
use Rattle.stripe_list.proofs.stripe_row_Lacks.{lacking-missing}
use Rattle.stripe_list.proofs.FullLaws.{places-are-full, standing-is-full}
use Rattle.history.specs.declared.events.Entry.{Entry}
use Rattle.history.specs.Stands.{stands, verdict, shape_for, covers}
use Rattle.history.specs.World.{World, opening_list}
use Rattle.history.specs.Flat.{values_of}
use Rattle.history.specs.Losses.{gone_count, is_gone}
use Rattle.history.specs.CrashSafe.{made_by, StandsFor, MayBeJudgedBy, IsRefusedRightly, IsJudged}
use Rattle.history.specs.Sound.{OpensFit}
use Rattle.history.proofs.GoneCounts.{few_missing}
use Rattle.crash_views.specs.Regions.{backup_of, header_in, open_by, place_by, DoWithout, refusal_for}
use Rattle.crash_views.specs.Views.{Disk, IsOutside, IsSettled, IsSeenRight, IsJudgedBy, ledger_of, ViewsAreSafe}
use Rattle.crash_views.proofs.Alike.{for-both, found-none, found-some, any-both, valid-for, row-below, role-in-shape, role-below}
use Rattle.crash_views.proofs.Standing.{standing_at, read-length, read-covered, read-placed, read-refused}

-- ---- plain facts

least-found : (n : ℕ) (test : ℕ → Bool) (k : ℕ) → least_below n test ≡ Some k → (k < n) × (test k ≡ true)
unfolding least_below
least-found zero test k is = absurd (cc)
least-found (suc n) test k is = of (least_below n test) (test n) (least-found n test k) refl is
  where
    of : (before : Option ℕ) (here : Bool) → (before ≡ Some k → (k < n) × (test k ≡ true)) → test n ≡ here → option_or before (cond here (Some n) None) ≡ Some k → (k < suc n) × (test k ≡ true)
    of (Some i) here rest passes e = let found = rest e in (omega (arith, found.0), found.1)
    of None true rest passes e = let same : n ≡ k = cc in (omega (arith, same), subst (λ (i : ℕ). test i ≡ true) same passes)
    of None false rest passes e = absurd (cc)

both-parts : (a b : Bool) → (a && b) ≡ true → (a ≡ true) × (b ≡ true)
both-parts true b e = (refl, e)
both-parts false b e = absurd (cc)

pub within-few : (a b : ℕ) → nat_lt a b ≡ false → b ≤ a
within-few a b e = grind (arith, nat_tests, e)

-- what covers a sector is a span
covered : (o : Option Span) (x : ℕ) → covers o x ≡ true → (span : Span) × (o ≡ Some span) × (covers (Some span) x ≡ true) × (span.lo ≤ x) × (x < span.hi)
covered None x is = absurd (cc)
covered (Some span) x is =
    let parts = both-parts (nat_le span.lo x) (nat_lt x span.hi) is in
    let low : nat_le span.lo x ≡ true = parts.0 in
    let high : nat_lt x span.hi ≡ true = parts.1 in
    (span, refl, is, grind (arith, nat_tests, low), grind (arith, nat_tests, high))

-- a slot holds the row, or none does
pub sector-held : (c : Contents) (m : Members) (role row slot : ℕ) → held_slot (reading_of m) role row ≡ Some slot → held_sector c (reading_of m) role row ≡ Some (c slot (data_offset_of (reading_of m) slot + row))
sector-held c m role row slot held = of (is_held (reading_of m) role row) (holder (role_state (reading_of m) role)) held
  where
    of : (b : Bool) (h : Option ℕ) → cond b h None ≡ Some slot → ◌≡◌ {A = Option Sector} (cond b (option_map (λ slot. c slot (data_offset_of (reading_of m) slot + row)) h) None) (Some (c slot (data_offset_of (reading_of m) slot + row)))
    of true h is = ap (λ (o : Option ℕ). option_map (λ slot. c slot (data_offset_of (reading_of m) slot + row)) o) is
    of false h is = absurd (cc)

pub slot-of : (o : Option ℕ) → ((slot : ℕ) × (o ≡ Some slot)) ⊎ (o ≡ None)
slot-of (Some s) = inl (s, refl)
slot-of None = inr refl

-- a role without a holder has no rows
pub no-rows : (m : Members) (role row : ℕ) → held_slot (reading_of m) role row ≡ None → row < m.newest.size → is_missing (reading_of m) role ≡ true
no-rows m role row none below = of (is_held (reading_of m) role row) refl none
  where
    whole : (state : Role) → holder state ≡ None → not (is_whole state) ≡ true
    whole (Whole slot) e = absurd (cc)
    whole (Recovering slot) e = refl
    whole Missing e = refl

    of : (b : Bool) → is_held (reading_of m) role row ≡ b → cond b (holder (role_state (reading_of m) role)) None ≡ None → is_missing (reading_of m) role ≡ true
    of true held e = whole (role_state (reading_of m) role) e
    of false lacks e = lacking-missing (reading_of m) role row below lacks

-- ---- one image

module _ (world : World) (given : Given) (entries : List Entry) (mark j : ℕ) (told : List Entry) (d : Disk) (judged : IsJudgedBy world given entries mark j told) (c : Contents) (drawn : IsDrawn d c)
    (seen : IsSeenRight (OpensFit world) world.scope given (ledger_of world entries (made_by mark entries) j told) d c) where
  abbrev m : Members
  m = seen.view

  abbrev k : ℕ
  k = made_by mark entries

  abbrev values : ℕ → List Sector
  values = values_of (opening_list world) told

  header-drawn : IsIn (d (backup_of world.scope) 0) (header_in world.scope c)
  header-drawn = drawn (backup_of world.scope) 0

  -- what a slot holds is allowed
  slot-allowed : (x slot : ℕ) → IsOutside world.scope m (header_in world.scope c) x → held_slot (reading_of m) (place_by m.newest x).role (place_by m.newest x).row ≡ Some slot → IsIn (values x) (standing_at m c x)
  slot-allowed x slot outside holds =
      let row : ℕ = (place_by m.newest x).row in
      let role : ℕ = (place_by m.newest x).role in
      subst (λ (v : Sector). IsIn (values x) v)
      (sym (ap (λ (held : Option Sector). unwrap_or held (fill (row_roles (shape_for m.newest x) row) (held_row c (reading_of m) (shape_for m.newest x) row) role))
      (sector-held c m role row slot holds)))
      (seen.right.held (header_in world.scope c) header-drawn x slot outside holds (c slot (data_offset_of (reading_of m) slot + row)) (drawn slot (data_offset_of (reading_of m) slot + row)))

  tolerated : DoWithout m → (x : ℕ) → IsTolerated (reading_of m) (shape_for m.newest x)
  tolerated few = for-both (λ s. IsTolerated (reading_of m) s) m.newest few.old few.final

  -- what is filled in of settled rows is allowed
  filled-allowed : DoWithout m → IsSettled world.scope m values d → (x : ℕ) → IsOutside world.scope m (header_in world.scope c) x → IsIn (values x) (standing_at m c x)
  filled-allowed few settled x outside =
      let row : ℕ = (place_by m.newest x).row in
      let shape : Shape = shape_for m.newest x in
      subst (λ (v : Sector). IsIn (values x) v)
      (sym (standing-is-full (reading_of m) c shape settled.list row (valid-for m.newest seen.right.placed.fit x) (row-below m.newest seen.right.placed.fit x outside.within) (tolerated few x)
      (settled.rows c drawn x outside) (place_by m.newest x).role (role-in-shape m.newest seen.right.placed.fit x)
      ∙ places-are-full shape settled.list x (valid-for m.newest seen.right.placed.fit x)))
      (settled.allowed x outside.within)

  -- a view that isn't refused is clean where it misses a role that has sectors of the list
  clean-there : (is_clean m.newest ≡ true) ⊎ (least_below (role_count m.newest) (λ role. verdicts.is_missing m.roles role && holds_data m.newest role) ≡ None)
      → (x : ℕ) → is_missing (reading_of m) (place_by m.newest x).role ≡ true → is_clean m.newest ≡ true
  clean-there (inl clean) x gone = clean
  clean-there (inr none) x gone =
      let role : ℕ = (place_by m.newest x).role in
      let lt : role < role_count m.newest = role-below m.newest seen.right.placed.fit x in
      let nothing : (is_missing (reading_of m) role && holds_data m.newest role) ≡ false = none_below (role_count m.newest) (λ role. verdicts.is_missing m.roles role && holds_data m.newest role) role lt none in
      let both = any-both (λ shape. not (is_parity_only shape role)) (shape_of m.newest) (target_of m.newest) (second (is_missing (reading_of m) role) (holds_data m.newest role) gone nothing) in
      let only : not (is_parity_only (shape_for m.newest x) role) ≡ false = for-both (λ s. not (is_parity_only s role) ≡ false) m.newest both.0 both.1 x in
      absurd ((parity_only-all (shape_for m.newest x) (valid-for m.newest seen.right.placed.fit x) role (role-in-shape m.newest seen.right.placed.fit x)).0 (back (is_parity_only (shape_for m.newest x) role) only) x refl)
    where
      second : (a b : Bool) → a ≡ true → (a && b) ≡ false → b ≡ false
      second true b e f = f
      second false b e f = absurd (cc)

      back : (b : Bool) → not b ≡ false → b ≡ true
      back true e = refl
      back false e = absurd (cc)

  -- a missing role is gone, so that the array opened fit
  opened-fit : (role : ℕ) → role < role_count m.newest → is_missing (reading_of m) role ≡ true → OpensFit world
  opened-fit role lt missing = elim judged.fills [
    | inl none ↦ absurd (let is = seen.right.gone role lt missing in let not = none role in cc)
    | inr good ↦ good
  ]

  -- each sector of the list has an allowed value
  sector-allowed : DoWithout m → (is_clean m.newest ≡ true) ⊎ (least_below (role_count m.newest) (λ role. verdicts.is_missing m.roles role && holds_data m.newest role) ≡ None)
      → (x : ℕ) → x < list_length m.newest → IsIn (values x) (slice_index_or (stands world.scope c) x [])
  sector-allowed few state x below = of (covers (open_by world.scope m.newest (header_in world.scope c)) x) refl
    where
      of : (b : Bool) → covers (open_by world.scope m.newest (header_in world.scope c)) x ≡ b → IsIn (values x) (slice_index_or (stands world.scope c) x [])
      of true is =
          let found = covered (open_by world.scope m.newest (header_in world.scope c)) x is in
          subst (λ (v : Sector). IsIn (values x) v)
          (sym (read-covered world.scope given m seen.right.placed c seen.found seen.same seen.is x below found.0 found.1 found.2))
          (seen.right.sections (header_in world.scope c) header-drawn found.0 found.1 x found.3 found.4 (c (backup_of world.scope) (8 + (x - found.0.lo))) (drawn (backup_of world.scope) (8 + (x - found.0.lo))))
      of false is =
          let outside : IsOutside world.scope m (header_in world.scope c) x = record { within = below; outside = is } in
          subst (λ (v : Sector). IsIn (values x) v)
          (sym (read-placed world.scope given m seen.right.placed c seen.found seen.same seen.is x below is))
          (elim (slot-of (held_slot (reading_of m) (place_by m.newest x).role (place_by m.newest x).row)) [
            | inl held ↦ slot-allowed x held.0 outside held.1
            | inr none ↦
                let gone : is_missing (reading_of m) (place_by m.newest x).role ≡ true = no-rows m (place_by m.newest x).role (place_by m.newest x).row none (row-below m.newest seen.right.placed.fit x below) in
                filled-allowed few (seen.right.settled (clean-there state x gone) few (opened-fit (place_by m.newest x).role (role-below m.newest seen.right.placed.fit x) gone)) x outside
          ])

  -- an image that isn't refused stands for the list
  stands-for : DoWithout m → (is_clean m.newest ≡ true) ⊎ (least_below (role_count m.newest) (λ role. verdicts.is_missing m.roles role && holds_data m.newest role) ≡ None)
      → verdict world.scope c ≡ None → StandsFor world told c
  stands-for few state is =
      let long : length (stands world.scope c) ≡ list_length m.newest = read-length world.scope given m seen.right.placed c seen.found seen.same seen.is in
      record {
        assembles = is;
        sized = long ∙ seen.right.sized;
        sectors = λ x below. sector-allowed few state x (rw (← long) below);
      }

  -- so many roles of a shape in force are missing, and each of them is gone
  missing-gone : (shape : Shape) → (shape ≡ shape_of m.newest) ⊎ (shape ≡ final_shape m.newest) → missing_count m.roles shape ≤ gone_count world entries k j
  unfolding gone_count
  missing-gone shape which =
      let few : shape.disks ≤ 16 = elim which [
        | inl e ↦ (let most = (limited (shape_of m.newest) seen.right.placed.fit.valid.old).most in let same = ap (λ (s : Shape). s.disks) e in omega (arith, most, same))
        | inr e ↦ (let most = (limited (final_shape m.newest) seen.right.placed.fit.valid.final).most in let same = ap (λ (s : Shape). s.disks) e in omega (arith, most, same))
      ] in
      few_missing (is_gone world entries k j) shape.disks (is_missing (reading_of m)) (omega (arith, few)) (λ role lt missing. seen.right.gone role (elim which [
        | inl e ↦ (let same = ap (λ (s : Shape). s.disks) e in omega (arith, lt, same))
        | inr e ↦ (let same = ap (λ (s : Shape). s.disks) e in omega (arith, lt, same))
      ]) missing)

  -- the image is refused as the view is
  verdict-is : verdict world.scope c ≡ refusal_for m
  verdict-is = read-refused world.scope given m seen.right.placed c seen.found seen.same seen.is

  by-roles : (found : Option Shape) → find (too_many m.roles) (shapes_in_force m.newest) ≡ found
      → ((judged : List Entry) × MayBeJudgedBy world entries k j judged × StandsFor world judged c) ⊎ IsRefusedRightly world entries k j c
  by-roles (Some shape) is =
      let which = found-some (too_many m.roles) (shape_of m.newest) (target_of m.newest) shape is in
      inr (inr (record {
        count = missing_count m.roles shape;
        tolerance = tolerance shape;
        refused = verdict-is ∙ ap (λ (o : Option Shape). option_or (option_map (λ shape. MembersMissing (missing_count m.roles shape) (tolerance shape)) o) (dirty_degraded m.newest m.roles)) is;
        gone = missing-gone shape which.1;
      }))
  by-roles None is = of (is_clean m.newest) (least_below (role_count m.newest) (λ role. verdicts.is_missing m.roles role && holds_data m.newest role)) refl refl
    where
      few : DoWithout m
      few =
          let both = found-none (too_many m.roles) (shape_of m.newest) (target_of m.newest) is in
          record { old = within-few (tolerance (shape_of m.newest)) (missing_count m.roles (shape_of m.newest)) both.0; final = within-few (tolerance (final_shape m.newest)) (missing_count m.roles (final_shape m.newest)) both.1 }

      here : (clean : Bool) (lowest : Option ℕ) → is_clean m.newest ≡ clean → least_below (role_count m.newest) (λ role. verdicts.is_missing m.roles role && holds_data m.newest role) ≡ lowest
          → verdict world.scope c ≡ cond clean None (option_map (λ (role : ℕ). DirtyDegraded role) lowest)
      here clean lowest a b =
          verdict-is
          ∙ ap (λ (o : Option Shape). option_or (option_map (λ shape. MembersMissing (missing_count m.roles shape) (tolerance shape)) o) (dirty_degraded m.newest m.roles)) is
          ∙ (λ i. cond (a i) None (option_map (λ (role : ℕ). DirtyDegraded role) (b i)))

      of : (clean : Bool) (lowest : Option ℕ) → is_clean m.newest ≡ clean → least_below (role_count m.newest) (λ role. verdicts.is_missing m.roles role && holds_data m.newest role) ≡ lowest
          → ((judged : List Entry) × MayBeJudgedBy world entries k j judged × StandsFor world judged c) ⊎ IsRefusedRightly world entries k j c
      of true lowest a b = inl (told, judged.by, stands-for few (inl a) (here true lowest a b))
      of false None a b = inl (told, judged.by, stands-for few (inr b) (here false None a b))
      of false (Some role) a b =
          let found = least-found (role_count m.newest) (λ role. verdicts.is_missing m.roles role && holds_data m.newest role) role b in
          inr (inl (record {
            role = role;
            refused = here false (Some role) a b;
            gone = seen.right.gone role found.0 (both-parts (verdicts.is_missing m.roles role) (holds_data m.newest role) found.1).0;
            unclean = seen.right.unclean a;
          }))

  pub seen-judged : IsJudged world entries mark c
  seen-judged = record {
    j = j;
    made = judged.made;
    running = judged.running;
    judgement = by-roles (find (too_many m.roles) (shapes_in_force m.newest)) refl;
  }

pub views-safe : ViewsAreSafe
views-safe world given entries mark d in_time within seen c image =
    let drawn : IsDrawn d c = λ s k. within s k (c s k) (image-drawn world.start world.tape mark c in_time image s k) in
    let by = seen c drawn in
    seen-judged world given entries mark by.j by.judged d by.by c drawn by.seen
