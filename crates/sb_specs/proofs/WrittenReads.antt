-- What is read of a slot while its first superblock sector is written.
use Rattle.std.proofs.Common.{◌≡◌, ℕ, suc, ◌+◌, ◌-◌, ◌*◌, ◌<◌, ◌≤◌, true, cond, ◌&&◌, List, [], ◌∷◌, ◌++◌, take, drop, length, get_or, Some, None, refl, sym, ◌∙◌, ap, ap₂, subst, arith, length-drop, take-append-drop}
use Rattle.std.specs.Prelude.{bytes_eq}
use Rattle.std.proofs.lemmas.Bool.{le-leb}
use Rattle.std.proofs.lemmas.List.{get_or-drop}
use Rattle.bank.specs.raid_types_Sectors.{Sector}
use Rattle.sb_codec.specs.declared.sb.Sb.{Sb}
use Rattle.sb_codec.specs.Superblock.{two_by_two, is_valid, sb_of}
use Rattle.sb_codec.proofs.SuperblockLaws.{others-stand}
use Rattle.sb_specs.specs.declared.change.Give.{Give}
use Rattle.sb_specs.specs.Reading.{Scope, is_seen, of_array}
use Rattle.sb_specs.specs.Update.{planned}
use Rattle.sb_specs.specs.Writing.{IsFirstSector}
use Rattle.sb_specs.specs.Held.{own_at, IsStamped, IsSecondHalf}
use Rattle.sb_specs.proofs.PlannedSb.{IsPlannedOf, planned-of, joined_drop}

-- two bytes by their number
same_two : (a b c d : ℕ) → a < 256 → c < 256 → a + 256 * b ≡ c + 256 * d → a ≡ c
same_two a b c d ha hc e = omega (arith, e)

same_two' : (a b c d : ℕ) → a < 256 → c < 256 → a + 256 * b ≡ c + 256 * d → b ≡ d
same_two' a b c d ha hc e = omega (arith, e)

-- bytes by their numbers of two
pub two_by_two-same : (n : ℕ) (x y : List ℕ) → length x ≡ 2 * n → length y ≡ 2 * n → ((k : ℕ) → get_or x k 0 < 256) → ((k : ℕ) → get_or y k 0 < 256)
    → two_by_two x ≡ two_by_two y → x ≡ y
two_by_two-same n [] [] lx ly bx by e = refl
two_by_two-same n [] (c ∷ y) lx ly bx by e = absurd (omega (arith, lx, ly))
two_by_two-same n (a ∷ x) [] lx ly bx by e = absurd (omega (arith, lx, ly))
two_by_two-same n (a ∷ []) (c ∷ y) lx ly bx by e = absurd (omega (arith, lx))
two_by_two-same n (a ∷ b ∷ x) (c ∷ []) lx ly bx by e = absurd (omega (arith, ly))
two_by_two-same n (a ∷ b ∷ x) (c ∷ d ∷ y) lx ly bx by e =
    let heads : a + 256 * b ≡ c + 256 * d = cc in
    let tails : two_by_two x ≡ two_by_two y = cc in
    let m : ℕ = n - 1 in
    let lx' : length x ≡ 2 * m = omega (arith, lx) in
    let ly' : length y ≡ 2 * m = omega (arith, ly) in
    (λ i. same_two a b c d (bx 0) (by 0) heads i ∷ same_two' a b c d (bx 0) (by 0) heads i ∷ two_by_two-same m x y lx' ly' (λ k. bx (suc (suc k))) (λ k. by (suc (suc k))) tails i)

-- both halves
halves : (sb : Sb) (bytes : List ℕ) (v w : Sector) → length bytes ≡ 1024 → v ≡ take 512 bytes → ((k : ℕ) → get_or bytes k 0 < 256) → IsSecondHalf sb w
    → drop 128 (sb_of bytes).dev_roles ≡ drop 128 sb.dev_roles → v ++ w ≡ bytes
halves sb bytes v w long first small half same =
    let rest : length (drop 512 bytes) ≡ 2 * 256 = omega (arith, length-drop 512 bytes, long) in
    let second : drop 512 bytes ≡ w = two_by_two-same 256 (drop 512 bytes) w rest half.long
    (λ k. subst (λ (n : ℕ). n < 256) (sym (get_or-drop 512 bytes k 0)) (small (512 + k))) half.bytes (others-stand bytes long ∙ same ∙ sym half.entries) in
    ap₂ (λ a b. a ++ b) first (sym second) ∙ take-append-drop 512 bytes

-- what is read of a slot with a written first sector and a former second one
read_whole : (scope : Scope) (slot : ℕ) (at : ℕ → Sector) (bytes : List ℕ) (sb : Sb) (csum : ℕ) → is_seen scope slot ≡ true → 10 ≤ scope.sizes.sectors slot
    → at 8 ++ at 9 ≡ bytes → is_valid bytes ≡ true → sb_of bytes ≡ record sb { sb_csum = csum } → bytes_eq sb.set_uuid scope.uuid ≡ true
    → own_at scope slot at ≡ Some (record sb { sb_csum = csum })
read_whole scope slot at bytes sb csum seen long whole valid fields uuid =
    (λ i. of_array scope.uuid (cond (seen i) (cond (le-leb 10 (scope.sizes.sectors slot) long i && is_valid (whole i)) (Some (sb_of (whole i))) None) None))
    ∙ (λ i. of_array scope.uuid (cond (valid i) (Some (fields i)) None))
    ∙ (λ i. cond (uuid i) (Some (record sb { sb_csum = csum })) None)

-- it is the planned superblock, but for the checksum
pub planned-stamped : (scope : Scope) (slot : ℕ) (newest own : Sb) (g : Give) (at : ℕ → Sector) → is_seen scope slot ≡ true → 10 ≤ scope.sizes.sectors slot
    → bytes_eq own.set_uuid scope.uuid ≡ true → 128 ≤ length newest.dev_roles → IsSecondHalf own (at 9) → IsFirstSector (planned newest g own) (at 8)
    → IsStamped (planned newest g own) (own_at scope slot at)
planned-stamped scope slot newest own g at seen long uuid table half first =
    let p : IsPlannedOf newest own (planned newest g own) = planned-of newest own g in
    let same : drop 128 (sb_of first.bytes).dev_roles ≡ drop 128 own.dev_roles =
    ap (λ (z : Sb). drop 128 z.dev_roles) first.fields ∙ ap (drop 128) p.roles ∙ joined_drop newest.dev_roles own.dev_roles table in
    let whole = halves own first.bytes (at 8) (at 9) first.long first.first first.small half same in (
      (sb_of first.bytes).sb_csum,
      read_whole scope slot at first.bytes (planned newest g own) ((sb_of first.bytes).sb_csum) seen long whole first.valid
          (first.fields ∙ ap (λ (n : ℕ). record (planned newest g own) { sb_csum = n }) (sym (ap (λ (z : Sb). z.sb_csum) first.fields)))
          (ap (λ u. bytes_eq u scope.uuid) p.uuid ∙ uuid),
    )
