-- A slot without a part in the array has none on members that moved, and what is kept of it stays so through calls.
use Rattle.std.proofs.Common.{◌≡◌, ◌⊎◌, inl, inr, ℕ, ◌<◌, ◌&&◌, ◌||◌, nat_lt, Bool, true, false, Some, refl, sym, ◌∙◌, arith}
use Rattle.std.specs.List.{list_any}
use Rattle.std.proofs.lemmas.Bool.Decides.{nat_tests}
use Rattle.sb_update.specs.bank_Given.{Given}
use Rattle.sb_update.specs.sb_specs_the_Members.{Members}
use Rattle.sb_update.specs.sb_specs_Reading.{role_state, holder}
use Rattle.sb_update.specs.sb_specs_Reads.{has_spare}
use Rattle.sb_update.specs.sb_specs_Update.{is_held_by}
use Rattle.array_members.specs.stripe_row_Rows.{reading_of}
use Rattle.array_members.specs.crash_views_Views.{Disk}
use Rattle.array_members.proofs.crash_safety_laws_Without.{live-is, any-holds, any-held}
use Rattle.array_members.specs.Moving.{IsMoved}
use Rattle.array_members.specs.Placed.{IsPlaced}
use Rattle.array_members.specs.Under.{IsRestKept}
use Rattle.sb_safe_updates.specs.Unused.{IsUnused, IsUnusedKept}

pub unused-moved : (given : Given) (old new : Members) → IsMoved given old new → (s : ℕ) → IsUnused old s → IsUnused new s
unused-moved given old new moved s unused = live-is new false s ∙ of (list_any (is_held_by s) new.roles) (has_spare new.spares s) refl refl (sym (live-is old false s) ∙ unused)
  where
    -- it was no slot at all
    some : (t a b c d : Bool) → (a ≡ true) ⊎ (b ≡ true) → (t && ((a || b) || false)) ≡ false → (t && ((c || d) || false)) ≡ false
    some false a b c d which none = refl
    some true true b c d which none = absurd (cc)
    some true false true c d which none = absurd (cc)
    some true false false c d (inl is) none = absurd (cc)
    some true false false c d (inr is) none = absurd (cc)

    of : (a b : Bool) → list_any (is_held_by s) new.roles ≡ a → has_spare new.spares s ≡ b → (nat_lt s 32 && ((list_any (is_held_by s) old.roles || has_spare old.spares s) || false)) ≡ false
        → (nat_lt s 32 && ((list_any (is_held_by s) new.roles || has_spare new.spares s) || false)) ≡ false
    of true b held spare none =
        let role = any-holds s new.roles held in
        some (nat_lt s 32) (list_any (is_held_by s) old.roles) (has_spare old.spares s) (list_any (is_held_by s) new.roles) (has_spare new.spares s) (inl (any-held s old.roles role.0 (moved.held role.0 s role.1))) none
    of false true held spare none =
        some (nat_lt s 32) (list_any (is_held_by s) old.roles) (has_spare old.spares s) (list_any (is_held_by s) new.roles) (has_spare new.spares s) (inr (moved.fewer s spare)) none
    of false false held spare none = (λ i. nat_lt s 32 && ((held i || spare i) || false)) ∙ never (nat_lt s 32)
      where
        never : (t : Bool) → (t && false) ≡ false
        never true = refl
        never false = refl

pub rest-unused : (m : Members) (d e : Disk) → IsRestKept m d e → IsUnusedKept m d e
rest-unused m d e rest s k v unused may = rest s k v (inr (inl unused)) may

pub unused-then : (given : Given) (old mid : Members) (d b e : Disk) → IsMoved given old mid → IsUnusedKept old d b → IsUnusedKept mid b e → IsUnusedKept old d e
unused-then given old mid d b e moved first second s k v unused may = first s k v unused (second s k v (unused-moved given old mid moved s unused) may)

-- it holds no role
pub unused-role : (given : Given) (m : Members) → IsPlaced given m → (s : ℕ) → IsUnused m s → (role : ℕ) → holder (role_state (reading_of m) role) ≡ Some s → ⊥
unused-role given m placed s unused role held = live (nat_lt s 32) (list_any (is_held_by s) m.roles) (has_spare m.spares s) (small (placed.holders role s held).small) (any-held s m.roles role held) (sym (live-is m false s) ∙ unused)
  where
    small : s < 32 → nat_lt s 32 ≡ true
    small lt = grind (arith, nat_tests, lt)

    live : (t a b : Bool) → t ≡ true → a ≡ true → (t && ((a || b) || false)) ≡ false → ⊥
    live true true b t_is a_is none = absurd (cc)
    live true false b t_is a_is none = absurd (cc)
    live false a b t_is a_is none = absurd (cc)
