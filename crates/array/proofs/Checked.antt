-- What an array without a reshape and one in it tell of themselves.
use Rattle.std.proofs.Common.{◌≡◌, ◌≢◌, ℕ, zero, suc, ◌<◌, ◌&&◌, ◌||◌, nat_lt, Bool, true, false, cond, Option, Some, refl, sym, ◌∙◌, subst, arith}
use Rattle.std.specs.List.{list_any}
use Rattle.std.specs.Prelude.{IfSome}
use Rattle.std.proofs.lemmas.Bool.Decides.{nat_tests}
use Rattle.array_grow.specs.bank_Given.{Given}
use Rattle.array_takeover.specs.sb_specs_the_Members.{Members}
use Rattle.array_takeover.specs.sb_codec_the_Sb.{Sb}
use Rattle.array_takeover.specs.sb_specs_Reading.{Scope, next_window}
use Rattle.array_takeover.specs.sb_specs_Reads.{has_spare}
use Rattle.array_takeover.specs.sb_specs_Update.{is_held_by}
use Rattle.array_grow.proofs.crash_views_Headers.{backup-is}
use Rattle.array_grow.proofs.crash_safety_laws_Without.{live-is}
use Rattle.array_grow.specs.array_members_Rebuilding.{Held}
use Rattle.array_grow.specs.sb_safe_updates_Unused.{IsUnused}
use Rattle.array_grow.specs.array_reshaping_invariant_Moving.{AreReshaping}
use Rattle.array_grow.specs.reshape_progress_Course.{IsWindowOf, hidden_in}
use Rattle.array_grow.specs.array_reshaping_state_Due.{unsure_in}
use Rattle.array_takeover.specs.reshape_request_the_Window.{Window}
use Rattle.array_takeover.specs.reshape_request_the_Window_TheVariants.{Closed, Entered, Unsure}

pub some-of : (n : ℕ) → n ≢ 0 → 0 < n
some-of zero none = absurd (none refl)
some-of (suc n) none = omega arith

-- the steps that are left are those of one state
pub left-by : (told : Option ℕ) (b c : Bool) (here other : ℕ) → b ≡ c → IfSome told (λ n. n ≡ cond c here other) → IfSome told (λ n. n ≡ cond b here other)
left-by told b c here other same was = subst (λ (d : Bool). IfSome told (λ n. n ≡ cond d here other)) (sym same) was

-- a window whose section is stored, or may be, is the next one
pub window-next : (newest : Sb) (window : Window) → IsWindowOf newest window → IfSome (hidden_in window) (λ span. next_window newest ≡ Some span) × IfSome (unsure_in window) (λ span. next_window newest ≡ Some span)
window-next newest Closed is = (tt, tt)
window-next newest (Entered span copied true) is = (is.0, tt)
window-next newest (Entered span copied false) is = (tt, tt)
window-next newest (Unsure span) is = (tt, is)

-- the backup of a reshape is no spare
spare-never : (m : Members) (s : ℕ) → s < 32 → IsUnused m s → has_spare m.spares s ≡ true → ⊥
spare-never m s lt unused spare = live (nat_lt s 32) (list_any (is_held_by s) m.roles) (has_spare m.spares s) (small lt) spare (sym (live-is m false s) ∙ unused)
  where
    small : s < 32 → nat_lt s 32 ≡ true
    small lt = grind (arith, nat_tests, lt)

    live : (t a b : Bool) → t ≡ true → b ≡ true → (t && ((a || b) || false)) ≡ false → ⊥
    live true true true t_is b_is none = absurd (cc)
    live true false true t_is b_is none = absurd (cc)
    live true a false t_is b_is none = absurd (cc)
    live false a b t_is b_is none = absurd (cc)

-- it has no part in the array
pub aside-moving : (scope : Scope) (given : Given) (m : Members) → AreReshaping scope given m → (slot : ℕ) → scope.backup ≡ Some slot → (has_spare m.spares slot ≡ false) × ((role : ℕ) → Held m role slot → ⊥)
aside-moving scope given m are slot is = (by (has_spare m.spares slot) refl, λ role held. are.backed.members_own role slot held is)
  where
    by : (b : Bool) → has_spare m.spares slot ≡ b → b ≡ false
    by false apart = refl
    by true spare = absurd (spare-never m slot (are.free slot spare).room.small (subst (λ (s : ℕ). IsUnused m s) (backup-is scope slot is) are.aside) spare)
