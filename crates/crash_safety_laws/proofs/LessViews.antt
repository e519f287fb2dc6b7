-- Views that lose roles, and updates of which an image reads as before or as planned.
use Rattle.std.proofs.Common.{◌≡◌, inl, inr, ℕ, zero, suc, ◌+◌, ◌-◌, ◌<◌, ◌≤◌, nat_lt, nat_le, Bool, true, false, cond, List, Option, Some, None, refl, sym, ◌∙◌, ap, ap₂, subst, arith}
use Rattle.std.proofs.lemmas.Bool.Decides.{nat_tests}
use Rattle.crash_views.specs.raid_types_the_Shape.{Shape}
use Rattle.crash_views.specs.raid_types_the_Span.{Span}
use Rattle.crash_views.specs.raid_types_the_Side_TheVariants.{Old, New}
use Rattle.crash_views.specs.raid_types_the_Role.{Role}
use Rattle.crash_views.specs.raid_types_Search.{count_below}
use Rattle.crash_views.specs.raid_types_Sectors.{Sector}
use Rattle.crash_views.specs.bank_Tape.{Contents, IsIn}
use Rattle.crash_views.specs.raid_layout_Layout.{place, stripe_of}
use Rattle.crash_views.specs.reshape_geometry_Geometry.{side}
use Rattle.sb_update_laws.specs.sb_codec_the_Sb.{Sb}
use Rattle.crash_views.specs.sb_specs_the_Members.{Members}
use Rattle.crash_views.specs.sb_specs_Reading.{Scope, is_clean, is_backward, shape_of, final_shape, list_length, role_state, rows_held, holder, data_offset_of}
use Rattle.crash_views.specs.sb_specs_Reads.{SaysSame}
use Rattle.crash_views.specs.stripe_row_Rows.{reading_of, is_missing, held_slot, IsTolerated}
use Rattle.crash_views.proofs.stripe_row_Losses.{holder-of}
use Rattle.crash_views.specs.stripe_list_Full.{RowStands}
use Rattle.crash_views.specs.history_ActiveSection.{section_for}
use Rattle.crash_views.specs.history_Stands.{shape_for, covers}
use Rattle.crash_views.specs.Regions.{header_in, open_by, place_by, DoWithout}
use Rattle.crash_views.specs.Views.{Disk, IsHeaderFit, IsTail, IsOutside, IsSettled}
use Rattle.crash_safety_laws.specs.Updates.{IsLessView, LessStaysRight, UpdatesAreSeenRight, AlikeStands, EndsPlaceAll}
use Rattle.crash_views.proofs.Alike.{shape-alike, final-alike, length-alike, window-alike, placing-alike}
use Rattle.crash_views.proofs.UnderWay.{shape-on}
use Rattle.crash_views.proofs.WindowLaws.{updating-right}

-- ---- a view with fewer roles

-- more are missing where more tests pass
pub more-pass : (n : ℕ) (f g : ℕ → Bool) → ((j : ℕ) → f j ≡ true → g j ≡ true) → count_below n f ≤ count_below n g
unfolding count_below
more-pass zero f g implied = omega arith
more-pass (suc n) f g implied = of (f n) (g n) refl refl (more-pass n f g implied)
  where
    of : (a b : Bool) → f n ≡ a → g n ≡ b → count_below n f ≤ count_below n g → count_below n f + cond a 1 0 ≤ count_below n g + cond b 1 0
    of true true one two r = omega (arith, r)
    of true false one two r = absurd (let both = sym (implied n one) ∙ two in cc)
    of false true one two r = omega (arith, r)
    of false false one two r = omega (arith, r)

-- a header fits as before, and the tail is the same
pub header-alike : (scope : Scope) (a b : Sb) → SaysSame a b → (header : Sector) → IsHeaderFit scope a header → IsHeaderFit scope b header
header-alike scope a b says header fit span named = elim (fit span named) [
  | inl next ↦ inl (sym (window-alike a b says) ∙ next)
  | inr new ↦ inr (λ x low high. (λ i. side (sym says.backward i) (sym says.reshape_position i) x) ∙ new x low high)
]

pub tail-alike : (a b : Sb) → SaysSame a b → (x : ℕ) → IsTail b x → IsTail a x
tail-alike a b says x tail =
    let final : final_shape b ≡ final_shape a = sym (final-alike a b says) in
    let long : list_length b ≡ list_length a = sym (length-alike a b says) in
    record {
      active = says.reshaping ∙ tail.active;
      forth = says.backward ∙ tail.forth;
      through = says.reshape_position ∙ tail.through ∙ long;
      past = (let p = tail.past in omega (arith, p, long));
      stripe = ap (λ (s : Shape). stripe_of s x) (sym final) ∙ tail.stripe ∙ (λ i. stripe_of (final i) (long i - 1));
    }

module _ (m view : Members) (less : IsLessView m view) where
  fewer-missing : (shape shape' : Shape) → shape ≡ shape' → IsTolerated (reading_of view) shape' → IsTolerated (reading_of m) shape
  fewer-missing shape shape' same few =
      let few' : IsTolerated (reading_of view) shape = subst (IsTolerated (reading_of view)) (sym same) few in
      let le = more-pass shape.disks (is_missing (reading_of m)) (is_missing (reading_of view)) less.missing in
      omega (arith, few', le)

  pub does-without : DoWithout view → DoWithout m
  does-without few = record {
    old = fewer-missing (shape_of m.newest) (shape_of view.newest) (shape-alike m.newest view.newest less.array) few.old;
    final = fewer-missing (final_shape m.newest) (final_shape view.newest) (final-alike m.newest view.newest less.array) few.final;
  }

  pub shape-same : (x : ℕ) → shape_for view.newest x ≡ shape_for m.newest x
  shape-same x = sym (placing-alike m.newest view.newest less.array x)

  pub length-same : list_length view.newest ≡ list_length m.newest
  length-same = sym (length-alike m.newest view.newest less.array)

  pub open-same : (scope : Scope) (header : Sector) → open_by scope view.newest header ≡ open_by scope m.newest header
  open-same scope header = ap (λ (w : Option Span). section_for scope (λ s k. header) scope.backup w) (sym (window-alike m.newest view.newest less.array))

  pub outside-same : (scope : Scope) (header : Sector) (x : ℕ) → IsOutside scope view header x → IsOutside scope m header x
  outside-same scope header x out = record {
    within = (let below = out.within in let same = length-same in omega (arith, below, same));
    outside = ap (λ (o : Option Span). covers o x) (sym (open-same scope header)) ∙ out.outside;
  }

  -- a row that a slot holds was held
  pub held-same : (role row slot : ℕ) → held_slot (reading_of view) role row ≡ Some slot → held_slot (reading_of m) role row ≡ Some slot
  held-same role row slot held =
      sym (ap (λ (n : ℕ). cond (nat_lt row n) (holder (role_state (reading_of m) role)) None)
      (less.rows role ∙ ap (rows_held (reading_of m)) same)
      ) ∙ sym (ap (λ (s : Role). cond (nat_lt row (rows_held (reading_of view) (role_state (reading_of view) role))) (holder s) None) same) ∙ held
    where
      same : role_state (reading_of view) role ≡ role_state (reading_of m) role
      same = less.states role slot (holder-of (reading_of view) role row slot held)

  pub offset-same : (role row slot : ℕ) → held_slot (reading_of view) role row ≡ Some slot → data_offset_of (reading_of view) slot ≡ data_offset_of (reading_of m) slot
  offset-same role row slot held = less.offsets role slot (holder-of (reading_of view) role row slot held)

  pub row-less : (c : Contents) (shape : Shape) (list : ℕ → Sector) (row : ℕ) → RowStands (reading_of m) c shape list row → RowStands (reading_of view) c shape list row
  row-less c shape list row stands = record {
    whole = stands.whole;
    sectors = λ role slot lt part held. ap (λ (n : ℕ). c slot (n + row)) (offset-same role row slot held) ∙ stands.sectors role slot lt part (held-same role row slot held);
    parity = λ role slot lt part held. ap (λ (n : ℕ). c slot (n + row)) (offset-same role row slot held) ∙ stands.parity role slot lt part (held-same role row slot held);
  }

  pub final-same : final_shape view.newest ≡ final_shape m.newest
  final-same = sym (final-alike m.newest view.newest less.array)

  -- what is settled stays so, by the same list
  unfoldable pub less-settled : (scope : Scope) (values : ℕ → List Sector) (d : Disk) → IsSettled scope m values d → IsSettled scope view values d
  less-settled scope values d s = record {
    list = s.list;
    allowed = λ x lt. s.allowed x (let same = length-same in omega (arith, lt, same));
    rows = λ c drawn x outside. subst (λ (s' : Shape). RowStands (reading_of view) c s' s.list (place s' x).row) (sym (shape-same x))
        (row-less c (shape_for m.newest x) s.list (place_by m.newest x).row (s.rows c drawn x (outside-same scope (header_in scope c) x outside)));
    zeros = λ x tail. s.zeros x (tail-alike m.newest view.newest less.array x tail);
  }

  pub less-clean : is_clean view.newest ≡ true → is_clean m.newest ≡ true
  less-clean clean = ap (λ (n : ℕ). is_clean (record m.newest { resync_offset = n })) less.array.resync_offset ∙ clean

pub less-right : (sound : Type 0) → LessStaysRight sound
less-right sound scope given told m view d less placed gone right = record {
  placed = placed;
  sized = length-same m view less ∙ right.sized;
  gone = gone;
  unclean = λ dirty. right.unclean (ap (λ (n : ℕ). is_clean (record m.newest { resync_offset = n })) less.array.resync_offset ∙ dirty);
  reshaping = λ active. right.reshaping (less.array.reshaping ∙ active);
  held = λ header may x slot outside holds v is. (
      let row-same : (place_by view.newest x).row ≡ (place_by m.newest x).row = ap (λ (s : Shape). (place s x).row) (shape-same m view less x) in
      let holds' : held_slot (reading_of m) (place_by m.newest x).role (place_by m.newest x).row ≡ Some slot =
      subst (λ (s : Shape). held_slot (reading_of m) (place s x).role (place s x).row ≡ Some slot) (shape-same m view less x) (held-same m view less (place_by view.newest x).role (place_by view.newest x).row slot holds) in
      right.held header may x slot (outside-same m view less scope header x outside) holds' v
      (subst (λ (n : ℕ). IsIn (d slot n) v) (ap₂ (λ (a b : ℕ). a + b) (offset-same m view less (place_by view.newest x).role (place_by view.newest x).row slot holds) row-same) is));
  sections = λ header may span active. right.sections header may span (sym (open-same m view less scope header) ∙ active);
  settled = λ clean few premise. less-settled m view less scope told.values d (right.settled (less-clean m view less clean) (does-without m view less few) premise);
  headers = λ active premise backup header here may. header-alike scope m.newest view.newest less.array header (right.headers (less.array.reshaping ∙ active) premise backup header here may);
  tails = λ premise x slot tail holds v is. (
      let final = final-same m view less in
      let was : held_slot (reading_of m) (place (final_shape m.newest) x).role (place (final_shape m.newest) x).row ≡ Some slot =
      subst (λ (s : Shape). held_slot (reading_of m) (place s x).role (place s x).row ≡ Some slot) final
      (held-same m view less (place (final_shape view.newest) x).role (place (final_shape view.newest) x).row slot holds) in
      right.tails premise x slot (tail-alike m.newest view.newest less.array x tail) was v
      (subst (λ (k : ℕ). IsIn (d slot k) v)
      (ap₂ (λ (a b : ℕ). a + b) (offset-same m view less (place (final_shape view.newest) x).role (place (final_shape view.newest) x).row slot holds) (ap (λ (s : Shape). (place s x).row) final)) is));
}

-- ---- an update

pub updates-seen : (sound : Type 0) → UpdatesAreSeenRight sound
updates-seen sound scope given before after former plan d e c some updating right right' (inl (view, r, is, read, planned)) =
    inl (record {
      found = r;
      is = is;
      view = view;
      same = read;
      right = less-right sound scope given before former view e planned.less planned.placed planned.gone (updating-right sound scope given before former d e some updating right);
    })
updates-seen sound scope given before after former plan d e c some updating right right' (inr (view, r, is, read, planned)) =
    inr (record {
      found = r;
      is = is;
      view = view;
      same = read;
      right = less-right sound scope given after plan view e planned.less planned.placed planned.gone (updating-right sound scope given after plan d e some updating right');
    })

-- ---- where a reshape begins and ends

pub alike-stands : AlikeStands
alike-stands m plan c list alike = (
  λ stands x slot shown held. (
      let same = alike.shapes x shown.within in
      let was : held_slot (reading_of m) (place_by m.newest x).role (place_by m.newest x).row ≡ Some slot =
      subst (λ (s : Shape). held_slot (reading_of m) (place s x).role (place s x).row ≡ Some slot) same (alike.held (place_by plan.newest x).role (place_by plan.newest x).row slot held) in
      ap₂ (λ (a b : ℕ). c slot (a + b)) (alike.offsets (place_by plan.newest x).role (place_by plan.newest x).row slot held) (ap (λ (s : Shape). (place s x).row) same)
      ∙ stands x slot (record { within = (let w = alike.within in let b = shown.within in omega (arith, w, b)); outside = refl }) was),
  λ stands x shown. (
      let same = alike.shapes x shown.within in
      let here = stands x (record { within = (let w = alike.within in let b = shown.within in omega (arith, w, b)); outside = refl }) in
      subst (λ (s : Shape). RowStands (reading_of plan) c s list (place s x).row) (sym same) (record {
        whole = here.whole;
        sectors = λ role slot lt part held. ap (λ (n : ℕ). c slot (n + (place_by m.newest x).row)) (alike.offsets role (place_by m.newest x).row slot held) ∙ here.sectors role slot lt part (alike.held role (place_by m.newest x).row slot held);
        parity = λ role slot lt part held. ap (λ (n : ℕ). c slot (n + (place_by m.newest x).row)) (alike.offsets role (place_by m.newest x).row slot held) ∙ here.parity role slot lt part (alike.held role (place_by m.newest x).row slot held);
      })),
)

pub ends-place : EndsPlaceAll
ends-place newest x active below = (λ start. shape-on newest active x Old (at-start (is_backward newest) start), λ last. shape-on newest active x New (at-end (is_backward newest) last))
  where
    at-start : (back : Bool) → newest.reshape_position ≡ cond back (list_length newest) 0 → side back newest.reshape_position x ≡ Old
    at-start true is = ap (λ (b : Bool). cond b New Old) (far newest.reshape_position x (omega (arith, is, below)))
      where
        far : (p x : ℕ) → x < p → nat_le p x ≡ false
        far p x lt = grind (arith, nat_tests, lt)
    at-start false is = ap (λ (b : Bool). cond b New Old) (none newest.reshape_position x (omega (arith, is)))
      where
        none : (p x : ℕ) → p ≡ 0 → nat_lt x p ≡ false
        none p x z = grind (arith, nat_tests, z)

    at-end : (back : Bool) → newest.reshape_position ≡ cond back 0 (list_length newest) → side back newest.reshape_position x ≡ New
    at-end true is = ap (λ (b : Bool). cond b New Old) (all newest.reshape_position x (omega (arith, is)))
      where
        all : (p x : ℕ) → p ≡ 0 → nat_le p x ≡ true
        all p x z = grind (arith, nat_tests, z)
    at-end false is = ap (λ (b : Bool). cond b New Old) (near newest.reshape_position x (omega (arith, is, below)))
      where
        near : (p x : ℕ) → x < p → nat_lt x p ≡ true
        near p x lt = grind (arith, nat_tests, lt)
