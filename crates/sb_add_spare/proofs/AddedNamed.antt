-- Superblocks of which each lost slot is named are held as the members say.
use Rattle.std.proofs.Common.{◌≡◌, ℕ, ◌||◌, ◌&&◌, Bool, true, false, not, nat_lt, bit_or, map, List, refl, sym, ◌∙◌, ap, subst}
use Rattle.std.specs.List.{list_any}
use Rattle.sb_safe_updates.specs.raid_types_Sectors.{Sector}
use Rattle.sb_safe_updates.specs.raid_types_Shapes.{has_slot}
use Rattle.sb_safe_updates.specs.raid_types_the_Role.{Role}
use Rattle.sb_safe_updates.specs.bank_Given.{Given}
use Rattle.sb_safe_updates.specs.sb_specs_the_Members.{Members}
use Rattle.sb_safe_updates.specs.sb_specs_Reading.{Scope}
use Rattle.sb_safe_updates.specs.sb_specs_Reads.{has_spare}
use Rattle.sb_safe_updates.specs.sb_specs_Update.{is_held_by}
use Rattle.sb_safe_updates.specs.sb_specs_Outcome.{live_set}
use Rattle.sb_safe_updates.specs.sb_specs_Held.{AreHeld}
use Rattle.sb_safe_updates.specs.sb_specs_Stages.{AreLeft}
use Rattle.sb_safe_updates.proofs.sb_read_laws_StageReads.{held-reads}
use Rattle.sb_safe_updates.proofs.sb_read_laws_RoundsRead.{more-held}
use Rattle.sb_safe_updates.specs.stripe_row_Rows.{role_without, members_without}
use Rattle.sb_safe_updates.specs.crash_safety_laws_Held.{IsHeldBy}
use Rattle.sb_safe_updates.specs.array_members_Lacking.{AreUnnamed}
use Rattle.sb_safe_updates.specs.crash_safety_laws_Marking.{marking}
use Rattle.sb_safe_updates.specs.array_members_Placed.{IsPlaced}
use Rattle.sb_safe_updates.specs.crash_safety_laws_Steady.{AreUnlost, IsSteady, IsNamedNow}
use Rattle.sb_safe_updates.specs.array_members_Rebuilding.{AreSparesFree}
use Rattle.sb_safe_updates.specs.crash_views_Views.{Ledger}
use Rattle.sb_safe_updates.proofs.RolesNamed.{unnamed-named}
use Rattle.sb_safe_updates.proofs.crash_safety_laws_Without.{in-both, any-holds, live-is}

-- a slot that is live wasn't lost
pub live-unlost : (given : Given) (m : Members) → AreUnlost m → AreSparesFree given m → (clean : Bool) (s : ℕ) → has_slot (live_set m (marking m clean)) s ≡ true → has_slot m.lost s ≡ false
live-unlost given m unlost free clean s live =
    of (nat_lt s 32) (list_any (is_held_by s) m.roles) (has_spare m.spares s) refl refl (sym (live-is m clean s) ∙ live)
  where
    of : (below holds spare : Bool) → list_any (is_held_by s) m.roles ≡ holds → has_spare m.spares s ≡ spare → (below && ((holds || spare) || false)) ≡ true → has_slot m.lost s ≡ false
    of true true spare is none e = let held = any-holds s m.roles is in unlost held.0 s held.1
    of true false true none is e = (free s is).unlost
    of true false false none nor e = absurd (cc)
    of false holds spare is isnt e = absurd (cc)

module _ (scope : Scope) (given : Given) (former : Members) (gone : ℕ) (d : ℕ → ℕ → List Sector) (held : IsHeldBy scope former d)
    (unlost : AreUnlost (members_without gone former)) (free : AreSparesFree given (members_without gone former)) (same : former.roles ≡ map (role_without gone) former.roles) where
  first-lost : (s : ℕ) → has_slot former.lost s ≡ true → has_slot (bit_or former.lost gone) s ≡ true
  first-lost s is = in-both former.lost gone s ∙ ap (λ (b : Bool). b || has_slot gone s) is

  live-same : (s : ℕ) → has_slot (live_set (members_without gone former) (marking (members_without gone former) false)) s ≡ has_slot (live_set former (marking former false)) s
  live-same s = live-is (members_without gone former) false s
      ∙ ap (λ (roles : List Role). nat_lt s 32 && ((list_any (is_held_by s) roles || has_spare former.spares s) || false)) (sym same)
      ∙ sym (live-is former false s)

  live-now : AreLeft (live_set (members_without gone former) (marking (members_without gone former) false)) (bit_or former.lost gone) held.known
  live-now s =
      held.live s
      ∙ of (has_slot (live_set former (marking former false)) s) refl (has_slot gone s) refl
      ∙ sym (λ i. live-same s i && not (in-both former.lost gone s i))
    where
      of : (live : Bool) → has_slot (live_set former (marking former false)) s ≡ live → (b : Bool) → has_slot gone s ≡ b
          → (has_slot (live_set former (marking former false)) s && not (has_slot former.lost s)) ≡ (has_slot (live_set former (marking former false)) s && not (has_slot former.lost s || has_slot gone s))
      of false dead b is = ap (λ (x : Bool). x && not (has_slot former.lost s)) dead ∙ sym (ap (λ (x : Bool). x && not (has_slot former.lost s || has_slot gone s)) dead)
      of true live false none = sym (ap (λ (x : Bool). has_slot (live_set former (marking former false)) s && not (has_slot former.lost s || x)) none
          ∙ ap (λ (x : Bool). has_slot (live_set former (marking former false)) s && not x) (or_none (has_slot former.lost s)))
        where
          or_none : (b : Bool) → (b || false) ≡ b
          or_none true = refl
          or_none false = refl
      of true live true is = absurd (
          let kept = sym (in-both former.lost gone s) ∙ live-unlost given (members_without gone former) unlost free false s (live-same s ∙ live) in
          let e = sym (ap (λ (x : Bool). has_slot former.lost s || x) is) ∙ kept in
          never (has_slot former.lost s) e)
        where
          never : (b : Bool) → (b || true) ≡ false → ⊥
          never true e = absurd (cc)
          never false e = absurd (cc)

  held-now : IsHeldBy scope (members_without gone former) d
  held-now = record {
    known = held.known;
    live = live-now;
    updated = record {
      held = now-held;
      exact = held.updated.exact;
      reads = λ c drawn. held-reads scope held.known (bit_or former.lost gone) former.newest former.own d now-held held.known (λ s is. is) c drawn;
    };
    said = record { roles = sym same ∙ held.said.roles; spares = held.said.spares };
  }
    where
      now-held : AreHeld scope held.known (bit_or former.lost gone) former.newest former.own d
      now-held = more-held scope held.known former.lost (bit_or former.lost gone) former.newest former.own d first-lost held.updated.held

pub named-held : (sound : Type 0) (scope : Scope) (given : Given) (told : Ledger) (m : Members) (d : ℕ → ℕ → List Sector) → IsPlaced given m → AreUnlost m → AreSparesFree given m → AreUnnamed m
    → IsSteady sound scope given told m d → IsHeldBy scope m d
named-held sound scope given told m d placed unlost free unnamed steady =
    by (unnamed-named m d placed unnamed steady)
  where
    by : IsNamedNow sound scope given told m d → IsHeldBy scope m d
    by named =
        let is = named.steady.since.since in
        subst (λ (n : Members). IsHeldBy scope n d) (sym is)
        (held-now scope given named.steady.former named.steady.since.gone d named.steady.since.held
        (subst AreUnlost is unlost) (subst (AreSparesFree given) is free) (named.roles ∙ ap (λ (n : Members). n.roles) is))
