-- The event count over the parts of a call: it rises by no more than there are operations, as long as a live slot is left.
use Rattle.std.proofs.Common.{◌≡◌, ℕ, ◌≤◌, ◌||◌, Bool, true, false, List, length, refl, sym, ◌∙◌, subst, arith}
use Rattle.crash_views.specs.raid_types_Shapes.{has_slot}
use Rattle.crash_views.specs.bank_the_Operation.{Operation}
use Rattle.crash_views.specs.sb_specs_the_Members.{Members}
use Rattle.crash_views.specs.stripe_row_Rows.{members_without}
use Rattle.crash_safety_laws.specs.Safety.{HasRoomLeft, IsRisen}
use Rattle.crash_safety_laws.proofs.Without.{in-both, live-before}

module _ {tells : Type 0} where
  pub risen-then : {a b c : Members} {one two three : List Operation} → IsRisen tells a b one two → IsRisen tells b c two three → IsRisen tells a c one three
  risen-then first second = record {
    left = λ live. first.left (second.left live);
    events = λ told live. let early = first.events told (second.left live) in let late = second.events told live in omega (arith, early, late);
  }

  -- nothing was marked
  pub risen-none : (m : Members) (before after : List Operation) → (tells → length before ≤ length after) → IsRisen tells m m before after
  risen-none m before after longer = record { left = λ live. live; events = λ told live. let more = longer told in omega (arith, more) }

  -- and slots were lost
  pub risen-without : (m : Members) (lost : ℕ) (before after : List Operation) → (tells → length before ≤ length after) → IsRisen tells m (members_without lost m) before after
  risen-without m lost before after longer = record {
    left = λ live. (live.0, live-before m lost false live.0 live.1, first (has_slot m.lost live.0) (has_slot lost live.0) (sym (in-both m.lost lost live.0) ∙ live.2));
    events = λ told live. let more = longer told in omega (arith, more);
  }
    where
      first : (a b : Bool) → (a || b) ≡ false → a ≡ false
      first false b e = refl
      first true b e = e

  pub risen-lost : (old new : Members) (lost : ℕ) (before after : List Operation) → new ≡ members_without lost old → (tells → length before ≤ length after) → IsRisen tells old new before after
  risen-lost old new lost before after is longer = subst (λ (m : Members). IsRisen tells old m before after) (sym is) (risen-without old lost before after longer)

-- ---- room

pub room-first : (m : Members) (one two three : List Operation) → HasRoomLeft m one three → length two ≤ length three → HasRoomLeft m one two
room-first m one two three room longer live = let enough = room live in omega (arith, enough, longer)

pub room-then : {tells : Type 0} {old mid : Members} {one two : List Operation} (three : List Operation) → tells → HasRoomLeft old one three → IsRisen tells old mid one two → HasRoomLeft mid two three
room-then three told room risen live = let enough = room (risen.left live) in let rise = risen.events told live in omega (arith, enough, rise)
