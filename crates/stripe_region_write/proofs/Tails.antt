-- The tail of a forward reshape that has gone through the list, in the rows of a write: a run that touches one is of the new shape, and a test tells its sectors.
use Rattle.std.proofs.Common.{◌≡◌, ◌⊎◌, inl, inr, ℕ, ◌-◌, ◌<◌, ◌≤◌, ◌==◌, ◌&&◌, ◌||◌, nat_lt, nat_le, not, Bool, true, false, cond, refl, sym, ◌∙◌, ap, subst, arith, eq-eqb}
use Rattle.std.proofs.lemmas.Bool.{and_parts, eqb-true, leb-true}
use Rattle.std.proofs.lemmas.Bool.Decides.{nat_tests}
use Rattle.stripe_region_read.specs.raid_types_the_Shape.{Shape}
use Rattle.stripe_region_read.specs.raid_types_the_Side_TheVariants.{Old, New}
use Rattle.stripe_region_read.specs.bank_Given.{Given}
use Rattle.stripe_region_read.specs.sb_codec_the_Sb.{Sb}
use Rattle.stripe_region_read.specs.raid_layout_Layout.{stripe_of}
use Rattle.stripe_region_read.specs.reshape_geometry_Geometry.{side}
use Rattle.stripe_region_read.specs.sb_specs_the_Members.{Members}
use Rattle.stripe_region_read.specs.sb_specs_Reading.{is_reshaping, is_backward, final_shape, list_length}
use Rattle.stripe_region_read.specs.history_Stands.{shape_for}
use Rattle.stripe_region_read.specs.crash_views_Regions.{AreShapesFit}
use Rattle.stripe_region_read.specs.crash_views_Views.{IsTail}
use Rattle.stripe_region_read.proofs.crash_views_UnderWay.{shape-on}
use Rattle.stripe_region_read.specs.array_members_Moving.{IsMoved}
use Rattle.stripe_region_read.proofs.array_members_Fit.{list-alike}
use Rattle.stripe_region_write.specs.declared.runs.Run.{Run}
use Rattle.stripe_region_write.specs.Runs.{IsRun}
use Rattle.stripe_region_write.proofs.RunLaws.{IsRunRow, run-sector}

-- ---- a test

abbrev is_tail : Sb → ℕ → Bool
is_tail newest x = (is_reshaping newest && not (is_backward newest))
    && ((newest.reshape_position == list_length newest) && (nat_le (list_length newest) x && (stripe_of (final_shape newest) x == stripe_of (final_shape newest) (list_length newest - 1))))

-- a sector of the list, or of the tail
abbrev pub is_listed : Sb → ℕ → Bool
is_listed newest x = nat_lt x (list_length newest) || is_tail newest x

both-true : (a b : Bool) → a ≡ true → b ≡ true → (a && b) ≡ true
both-true true b one two = two
both-true false b one two = absurd (cc)

not-false : (b : Bool) → not b ≡ true → b ≡ false
not-false true is = absurd (cc)
not-false false is = refl

tail-of : (newest : Sb) (x : ℕ) → is_tail newest x ≡ true → IsTail newest x
tail-of newest x is =
    let parts = and_parts (is_reshaping newest && not (is_backward newest))
    ((newest.reshape_position == list_length newest) && (nat_le (list_length newest) x && (stripe_of (final_shape newest) x == stripe_of (final_shape newest) (list_length newest - 1)))) is in
    let way = and_parts (is_reshaping newest) (not (is_backward newest)) parts.0 in
    let rest = and_parts (newest.reshape_position == list_length newest) (nat_le (list_length newest) x && (stripe_of (final_shape newest) x == stripe_of (final_shape newest) (list_length newest - 1))) parts.1 in
    let last = and_parts (nat_le (list_length newest) x) (stripe_of (final_shape newest) x == stripe_of (final_shape newest) (list_length newest - 1)) rest.1 in
    record {
      active = way.0;
      forth = not-false (is_backward newest) way.1;
      through = eqb-true newest.reshape_position (list_length newest) rest.0;
      past = leb-true (list_length newest) x last.0;
      stripe = eqb-true (stripe_of (final_shape newest) x) (stripe_of (final_shape newest) (list_length newest - 1)) last.1;
    }

tail-is : (newest : Sb) (x : ℕ) → IsTail newest x → is_tail newest x ≡ true
tail-is newest x tail =
    both-true (is_reshaping newest && not (is_backward newest))
    ((newest.reshape_position == list_length newest) && (nat_le (list_length newest) x && (stripe_of (final_shape newest) x == stripe_of (final_shape newest) (list_length newest - 1))))
    (both-true (is_reshaping newest) (not (is_backward newest)) tail.active (ap not tail.forth))
    (both-true (newest.reshape_position == list_length newest) (nat_le (list_length newest) x && (stripe_of (final_shape newest) x == stripe_of (final_shape newest) (list_length newest - 1)))
    (eq-eqb newest.reshape_position (list_length newest) tail.through)
    (both-true (nat_le (list_length newest) x) (stripe_of (final_shape newest) x == stripe_of (final_shape newest) (list_length newest - 1)) (le-is (list_length newest) x tail.past)
    (eq-eqb (stripe_of (final_shape newest) x) (stripe_of (final_shape newest) (list_length newest - 1)) tail.stripe)))
  where
    le-is : (a b : ℕ) → a ≤ b → nat_le a b ≡ true
    le-is a b le = grind (arith, nat_tests, le)

or-first : (a b : Bool) → a ≡ true → (a || b) ≡ true
or-first true b is = refl
or-first false b is = absurd (cc)

or-second : (a b : Bool) → b ≡ true → (a || b) ≡ true
or-second true b is = refl
or-second false b is = is

lt-is : (a b : ℕ) → a < b → nat_lt a b ≡ true
lt-is a b lt = grind (arith, nat_tests, lt)

pub listed-is : (newest : Sb) (x : ℕ) → x < list_length newest → is_listed newest x ≡ true
listed-is newest x lt = or-first (nat_lt x (list_length newest)) (is_tail newest x) (lt-is x (list_length newest) lt)

pub tailed-is : (newest : Sb) (x : ℕ) → IsTail newest x → is_listed newest x ≡ true
tailed-is newest x tail = or-second (nat_lt x (list_length newest)) (is_tail newest x) (tail-is newest x tail)

pub listed-or-tail : (newest : Sb) (x : ℕ) → is_listed newest x ≡ true → (x < list_length newest) ⊎ IsTail newest x
listed-or-tail newest x passes = of (nat_lt x (list_length newest)) refl (is_tail newest x) refl passes
  where
    of : (a : Bool) → nat_lt x (list_length newest) ≡ a → (b : Bool) → is_tail newest x ≡ b → (a || b) ≡ true → (x < list_length newest) ⊎ IsTail newest x
    of true low b tail is = inl (grind (arith, nat_tests, low))
    of false low true tail is = inr (tail-of newest x tail)
    of false low false tail is = absurd (cc)

-- ---- a tail and the runs of a write

-- where there is a tail, each sector of the list is placed by the new shape
tail-new : (newest : Sb) (x y : ℕ) → IsTail newest x → y < list_length newest → shape_for newest y ≡ final_shape newest
tail-new newest x y tail lt =
    shape-on newest tail.active y New
    (ap (λ (b : Bool). side b newest.reshape_position y) tail.forth ∙ ap (λ (b : Bool). cond b New Old) (lt-is y newest.reshape_position (let through = tail.through in omega (arith, lt, through))))

-- so is a run that touches a row
pub tail-run : (newest : Sb) (fit : AreShapesFit newest) (run : Run) (is : IsRun newest run) (x row : ℕ) → IsTail newest x → IsRunRow run row → run.shape ≡ final_shape newest
tail-run newest fit run is x row tail touch =
    let t = run-sector newest fit run is row touch in
    sym (is.one t.0 t.1 t.2) ∙ tail-new newest x t.0 tail (let end = t.2 in let within = is.within in omega (arith, end, within))

-- members that moved have the tail that stood before
pub tail-before : (given : Given) (old new : Members) → IsMoved given old new → (x : ℕ) → IsTail new.newest x → IsTail old.newest x
tail-before given old new moved x tail = record {
  active = sym moved.reshape.reshaping ∙ tail.active;
  forth = sym moved.reshape.backward ∙ tail.forth;
  through = sym moved.reshape.position ∙ tail.through ∙ long;
  past = subst (λ (n : ℕ). n ≤ x) long tail.past;
  stripe = sym (ap (λ (s : Shape). stripe_of s x) moved.reshape.final) ∙ tail.stripe ∙ (λ i. stripe_of (moved.reshape.final i) (long i - 1));
}
  where
    long : list_length new.newest ≡ list_length old.newest
    long = list-alike old.newest new.newest moved.reshape moved.shape moved.size
