-- Why a stored reshape is refused.
use Rattle.std.proofs.Common.{◌≡◌, ℕ, ◌+◌, ◌*◌, ◌/◌, ◌<◌, ◌==◌, ◌&&◌, ◌||◌, nat_le, Bool, true, false, not, cond, List, [], ◌∷◌, Option, Some, None, option_map, refl, sym, ◌∙◌, ap, subst, arith}
use Rattle.std.specs.Prelude.{find}
use Rattle.std.specs.Int.{◌∣◌}
use Rattle.std.specs.Option.{option_or, option_map_or}
use Rattle.std.proofs.lemmas.Bool.{eqb-true}
use Rattle.std.proofs.lemmas.Bool.Decides.{nat_tests}
use Rattle.std.proofs.Math.Nat.{div-mul_cancel, dvd-mul_left}
use Rattle.array_call_specs.specs.raid_types_the_Refusal.{Refusal}
use Rattle.array_call_specs.specs.raid_types_the_Refusal_TheVariants.{NoSuperblock, Unsupported, BadField, TwoHolders, MembersMissing, DirtyDegraded, PositionNotOnUnit, BackupAbsent}
use Rattle.array_call_specs.specs.raid_types_the_Shape.{Shape}
use Rattle.array_call_specs.specs.raid_types_the_Role.{Role}
use Rattle.array_call_specs.specs.raid_types_Search.{tabulate, least_below}
use Rattle.array_call_specs.specs.raid_types_Shapes.{has_slot, tolerance, is_multiple}
use Rattle.array_call_specs.specs.sb_codec_the_Sb.{Sb}
use Rattle.array_call_specs.specs.sb_codec_Features.{refused_bits}
use Rattle.array_call_specs.specs.sb_codec_Superblock.{superblock_in}
use Rattle.array_call_specs.specs.bank_Given.{Sizes}
use Rattle.array_call_specs.specs.bank_Tape.{Contents}
use Rattle.array_call_specs.specs.sb_specs_Election.{seen_superblocks}
use Rattle.array_call_specs.specs.sb_specs_Reading.{Scope, Reading, reading, reading_of, of_array, superblocks, seen_superblock, is_seen, is_backup, is_reshaping, is_clean, list_length, shapes_in_force, role_count}
use Rattle.array_call_specs.specs.sb_specs_Verdict.{unit_of, members_refusal, first_of_all, fresh_from, unsupported, bad_field, judged_fields, first_bad_entry, two_holders, shared_dev, members_missing, missing_count, too_many, dirty_degraded, holds_data, off_unit}
use Rattle.array_call_specs.specs.sb_specs_Verdict as verdicts
use Rattle.array_call_specs.specs.history_Stands.{verdict, refusal_of, backup_absent, has_room, reach_of}
use Rattle.array_found_laws.specs.Causes.{IsOffUnit, OffUnitIsTold, AcceptedIsOnUnit, LacksBackup, LackingBackupIsTold, LackingBackupIsRefused, IsWithoutBackup, BackupsHaveNoSuperblock, LostBackupIsRefused}
use Rattle.array_found_laws.proofs.Elected.{unrefused}

-- ---- what is answered

none-some : {A : Type 0} (x : A) → ◌≡◌ {A = Option A} None (Some x) → ⊥
none-some x e = absurd (cc)

-- a verdict is that on what is read
by-reading : (scope : Scope) (c : Contents) (refusal : Refusal) (found : Option Reading) → reading scope c ≡ found → option_map_or (refusal_of scope) found (Some NoSuperblock) ≡ Some refusal
    → (NoSuperblock ≡ refusal → ⊥) → (r : Reading) × (reading scope c ≡ Some r) × (refusal_of scope r ≡ Some refusal)
by-reading scope c refusal None is e other = absurd (other (one NoSuperblock refusal e))
  where
    one : (a b : Refusal) → Some a ≡ Some b → a ≡ b
    one a b e = cc
by-reading scope c refusal (Some r) is e other = (r, is, e)

read-refusal : (scope : Scope) (c : Contents) (refusal : Refusal) → verdict scope c ≡ Some refusal → (NoSuperblock ≡ refusal → ⊥) → (r : Reading) × (reading scope c ≡ Some r) × (refusal_of scope r ≡ Some refusal)
unfolding verdict
read-refusal scope c refusal is other = by-reading scope c refusal (reading scope c) refl is other

pub verdict-of : (scope : Scope) (c : Contents) (r : Reading) → reading scope c ≡ Some r → verdict scope c ≡ refusal_of scope r
unfolding verdict
verdict-of scope c r is = ap (λ (found : Option Reading). option_map_or (refusal_of scope) found (Some NoSuperblock)) is

-- the members' refusal comes first, then the backup's
both-none : (a b : Option Refusal) → option_or a b ≡ None → (a ≡ None) × (b ≡ None)
both-none None b e = (refl, e)
both-none (Some x) b e = absurd (cc)

-- ---- a refusal that is neither's

-- the position's, and no other one
abbrev IsOther : Refusal → Type 0
IsOther refusal = (position unit : ℕ) → refusal ≡ PositionNotOnUnit position unit → ⊥

skip : (a b : Option Refusal) (position unit : ℕ) → ((refusal : Refusal) → a ≡ Some refusal → IsOther refusal) → option_or a b ≡ Some (PositionNotOnUnit position unit) → b ≡ Some (PositionNotOnUnit position unit)
skip None b position unit others e = e
skip (Some refusal) b position unit others e = absurd (others refusal refl position unit (one refusal (PositionNotOnUnit position unit) e))
  where
    one : (a b : Refusal) → Some a ≡ Some b → a ≡ b
    one a b e = cc

mapped : {A : Type 0} (f : A → Refusal) → ((x : A) → IsOther (f x)) → (a : Option A) (refusal : Refusal) → option_map f a ≡ Some refusal → IsOther refusal
mapped f others None refusal e = absurd (none-some refusal e)
mapped f others (Some x) refusal e = subst IsOther (one (f x) refusal e) (others x)
  where
    one : (a b : Refusal) → Some a ≡ Some b → a ≡ b
    one a b e = cc

-- none of the earlier ones is the position's
unsupported-other : (slots : List (Sb × ℕ)) (refusal : Refusal) → unsupported slots ≡ Some refusal → IsOther refusal
unsupported-other slots = mapped (λ (s : Sb × ℕ). Unsupported (refused_bits s.0.feature_map)) (λ x position unit e. absurd (cc)) (find (λ s. not (refused_bits s.0.feature_map == 0)) slots)

field-other : (newest : Sb) (slots : List (Sb × ℕ)) (refusal : Refusal) → bad_field newest slots ≡ Some refusal → IsOther refusal
field-other newest slots refusal e =
    of (option_map (λ (f : ℕ × Bool). BadField f.0) (find (λ (f : ℕ × Bool). f.1) (judged_fields newest slots))) (option_map (λ (index : ℕ). BadField (256 + 2 * index)) (first_bad_entry newest slots)) e
    (mapped (λ (f : ℕ × Bool). BadField f.0) (λ x position unit e. absurd (cc)) (find (λ (f : ℕ × Bool). f.1) (judged_fields newest slots)))
    (mapped (λ (index : ℕ). BadField (256 + 2 * index)) (λ x position unit e. absurd (cc)) (first_bad_entry newest slots))
  where
    of : (a b : Option Refusal) → option_or a b ≡ Some refusal → ((r : Refusal) → a ≡ Some r → IsOther r) → ((r : Refusal) → b ≡ Some r → IsOther r) → IsOther refusal
    of None b e one two = two refusal e
    of (Some x) b e one two = one refusal e

holders-other : (slots : List (Sb × ℕ)) (refusal : Refusal) → two_holders slots ≡ Some refusal → IsOther refusal
holders-other slots = mapped (λ (dev : ℕ). TwoHolders dev) (λ x position unit e. absurd (cc)) (shared_dev slots)

missing-other : (newest : Sb) (roles : List Role) (refusal : Refusal) → members_missing newest roles ≡ Some refusal → IsOther refusal
missing-other newest roles = mapped (λ (shape : Shape). MembersMissing (missing_count roles shape) (tolerance shape)) (λ x position unit e. absurd (cc)) (find (too_many roles) (shapes_in_force newest))

degraded-other : (newest : Sb) (roles : List Role) (refusal : Refusal) → dirty_degraded newest roles ≡ Some refusal → IsOther refusal
degraded-other newest roles refusal e = of (is_clean newest) e
  where
    of : (b : Bool) → cond b None (option_map (λ (role : ℕ). DirtyDegraded role) (least_below (role_count newest) (λ role. verdicts.is_missing roles role && holds_data newest role))) ≡ Some refusal → IsOther refusal
    of true e = absurd (none-some refusal e)
    of false e = mapped (λ (role : ℕ). DirtyDegraded role) (λ x position unit e. absurd (cc)) (least_below (role_count newest) (λ role. verdicts.is_missing roles role && holds_data newest role)) refusal e

off-last : (sectors : ℕ → ℕ) (r : Reading) (position unit : ℕ) → members_refusal sectors r ≡ Some (PositionNotOnUnit position unit) → off_unit r.newest ≡ Some (PositionNotOnUnit position unit)
off-last sectors r position unit e =
    let slots : List (Sb × ℕ) = fresh_from r.newest sectors 0 r.own in
    let one = skip (unsupported slots) (first_of_all (bad_field r.newest slots ∷ two_holders slots ∷ members_missing r.newest r.roles ∷ dirty_degraded r.newest r.roles ∷ off_unit r.newest ∷ [])) position unit
    (unsupported-other slots) e in
    let two = skip (bad_field r.newest slots) (first_of_all (two_holders slots ∷ members_missing r.newest r.roles ∷ dirty_degraded r.newest r.roles ∷ off_unit r.newest ∷ [])) position unit (field-other r.newest slots) one in
    let three = skip (two_holders slots) (first_of_all (members_missing r.newest r.roles ∷ dirty_degraded r.newest r.roles ∷ off_unit r.newest ∷ [])) position unit (holders-other slots) two in
    let four = skip (members_missing r.newest r.roles) (first_of_all (dirty_degraded r.newest r.roles ∷ off_unit r.newest ∷ [])) position unit (missing-other r.newest r.roles) three in
    let five = skip (dirty_degraded r.newest r.roles) (first_of_all (off_unit r.newest ∷ [])) position unit (degraded-other r.newest r.roles) four in
    last (off_unit r.newest) five
  where
    last : (a : Option Refusal) → option_or a None ≡ Some (PositionNotOnUnit position unit) → a ≡ Some (PositionNotOnUnit position unit)
    last (Some x) e = e
    last None e = e

-- ---- the position

-- a multiple passes the test
multiple-is : (n k : ℕ) → k ∣ n → is_multiple n k ≡ true
multiple-is n k d = same (n / k * k) n (div-mul_cancel k d)
  where
    same : (a b : ℕ) → a ≡ b → (a == b) ≡ true
    same a b e = grind (arith, nat_tests, e)

equal-is : (a b : ℕ) → a ≡ b → (a == b) ≡ true
equal-is a b e = grind (arith, nat_tests, e)

off-is : (newest : Sb) (position unit : ℕ) → off_unit newest ≡ Some (PositionNotOnUnit position unit) → IsOffUnit newest position unit
off-is newest position unit e = of (is_reshaping newest) (is_multiple newest.reshape_position (unit_of newest)) (newest.reshape_position == list_length newest) refl refl refl e
  where
    first : (a b u v : ℕ) → PositionNotOnUnit a u ≡ PositionNotOnUnit b v → (a ≡ b) × (u ≡ v)
    first a b u v e = (cc, cc)

    of : (r m l : Bool) → is_reshaping newest ≡ r → is_multiple newest.reshape_position (unit_of newest) ≡ m → (newest.reshape_position == list_length newest) ≡ l
        → ◌≡◌ {A = Option Refusal} (cond (not r || m || l) None (Some (PositionNotOnUnit newest.reshape_position (unit_of newest)))) (Some (PositionNotOnUnit position unit)) → IsOffUnit newest position unit
    of true false false active many last e =
        let both = first newest.reshape_position position (unit_of newest) unit (cc) in
        record {
          active = active;
          position_is = both.0;
          unit_is = both.1;
          between = λ d. (let is = multiple-is newest.reshape_position (unit_of newest) (subst (λ (k : ℕ). k ∣ newest.reshape_position) (sym both.1) (subst (λ (n : ℕ). unit ∣ n) (sym both.0) d)) in
              let clash = sym is ∙ many in absurd (cc));
          inside = λ same. (let is = equal-is newest.reshape_position (list_length newest) (both.0 ∙ same) in let clash = sym is ∙ last in absurd (cc));
        }
    of true true l active many last e = absurd (none-some (PositionNotOnUnit position unit) e)
    of true false true active many last e = absurd (none-some (PositionNotOnUnit position unit) e)
    of false m l active many last e = absurd (none-some (PositionNotOnUnit position unit) e)

pub off-unit-told : OffUnitIsTold
off-unit-told scope c position unit is =
    let found = read-refusal scope c (PositionNotOnUnit position unit) is (λ e. absurd (cc)) in
    (found.0, found.1, off-is found.0.newest position unit (off-last scope.sizes.sectors found.0 position unit (members-first (members_refusal scope.sizes.sectors found.0) (is_reshaping found.0.newest) (has_room scope (reach_of found.0.newest)) found.2)))
  where
    members-first : (a : Option Refusal) (active room : Bool) → option_or a (cond (not active || room) None (Some BackupAbsent)) ≡ Some (PositionNotOnUnit position unit) → a ≡ Some (PositionNotOnUnit position unit)
    members-first (Some x) active room e = e
    members-first None true true e = absurd (none-some (PositionNotOnUnit position unit) e)
    members-first None true false e = absurd (let clash : BackupAbsent ≡ PositionNotOnUnit position unit = cc in cc)
    members-first None false room e = absurd (none-some (PositionNotOnUnit position unit) e)

pub accepted-on-unit : AcceptedIsOnUnit
accepted-on-unit scope c r position unit none is off =
    let all = both-none (members_refusal scope.sizes.sectors r) (backup_absent scope r.newest) (sym (verdict-of scope c r is) ∙ none) in
    let on = (unrefused scope.sizes.sectors r all.0).unit in
    of (is_reshaping r.newest) (is_multiple r.newest.reshape_position (unit_of r.newest)) (r.newest.reshape_position == list_length r.newest) off.active refl refl on
  where
    of : (a m l : Bool) → a ≡ true → is_multiple r.newest.reshape_position (unit_of r.newest) ≡ m → (r.newest.reshape_position == list_length r.newest) ≡ l
        → ◌≡◌ {A = Option Refusal} (cond (not a || m || l) None (Some (PositionNotOnUnit r.newest.reshape_position (unit_of r.newest)))) None → ⊥
    of true true l active many last e = off.between (subst (λ (k : ℕ). k ∣ position) off.unit_is (subst (λ (n : ℕ). unit_of r.newest ∣ n) off.position_is
        (subst (λ (n : ℕ). unit_of r.newest ∣ n) (eqb-true (r.newest.reshape_position / unit_of r.newest * unit_of r.newest) r.newest.reshape_position many)
        (dvd-mul_left (unit_of r.newest) (r.newest.reshape_position / unit_of r.newest)))))
    of true false true active many last e = off.inside (sym off.position_is ∙ eqb-true r.newest.reshape_position (list_length r.newest) last)
    of true false false active many last e = absurd (cc)
    of false m l active many last e = absurd (cc)

-- ---- the backup

short-of : (backup : Option ℕ) (given reach : ℕ) (sectors : ℕ → ℕ) → option_map_or (λ slot. has_slot given slot && nat_le (8 + reach) (sectors slot)) backup false ≡ false
    → (slot : ℕ) → backup ≡ Some slot → has_slot given slot ≡ true → sectors slot < 8 + reach
short-of None given reach sectors e slot is has = absurd (none-some slot is)
short-of (Some b) given reach sectors e slot is has =
    let same : b ≡ slot = one b slot is in
    less (8 + reach) (sectors slot) (second (has_slot given slot) (nat_le (8 + reach) (sectors slot)) has (subst (λ (s : ℕ). (has_slot given s && nat_le (8 + reach) (sectors s)) ≡ false) same e))
  where
    one : (a b : ℕ) → Some a ≡ Some b → a ≡ b
    one a b e = cc

    second : (a b : Bool) → a ≡ true → (a && b) ≡ false → b ≡ false
    second true b e f = f
    second false b e f = absurd (cc)

    less : (a b : ℕ) → nat_le a b ≡ false → b < a
    less a b e = grind (arith, nat_tests, e)

roomless : (backup : Option ℕ) (given reach : ℕ) (sectors : ℕ → ℕ) → ((slot : ℕ) → backup ≡ Some slot → has_slot given slot ≡ true → sectors slot < 8 + reach)
    → option_map_or (λ slot. has_slot given slot && nat_le (8 + reach) (sectors slot)) backup false ≡ false
roomless None given reach sectors short = refl
roomless (Some b) given reach sectors short = of (has_slot given b) refl
  where
    more : (a b : ℕ) → b < a → nat_le a b ≡ false
    more a b lt = grind (arith, nat_tests, lt)

    of : (h : Bool) → has_slot given b ≡ h → (h && nat_le (8 + reach) (sectors b)) ≡ false
    of true has = more (8 + reach) (sectors b) (short b refl has)
    of false has = refl

pub lacking-told : LackingBackupIsTold
lacking-told scope c is =
    let found = read-refusal scope c BackupAbsent is (λ e. absurd (cc)) in
    let r = found.0 in
    let parts = split (members_refusal scope.sizes.sectors r) (is_reshaping r.newest) (has_room scope (reach_of r.newest)) (not-members scope r) found.2 in
    (r, found.1, parts.0, record { active = parts.1; short = short-of scope.backup scope.given (reach_of r.newest) scope.sizes.sectors parts.2 })
  where
    split : (a : Option Refusal) (active room : Bool) → (a ≡ Some BackupAbsent → ⊥) → option_or a (cond (not active || room) None (Some BackupAbsent)) ≡ Some BackupAbsent → (a ≡ None) × (active ≡ true) × (room ≡ false)
    split (Some x) active room other e = absurd (other e)
    split None true true other e = absurd (none-some BackupAbsent e)
    split None true false other e = (refl, refl, refl)
    split None false room other e = absurd (none-some BackupAbsent e)

    never-mapped : {A : Type 0} (f : A → Refusal) → ((x : A) → f x ≡ BackupAbsent → ⊥) → (a : Option A) → option_map f a ≡ Some BackupAbsent → ⊥
    never-mapped f others None e = none-some BackupAbsent e
    never-mapped f others (Some x) e = others x (one (f x) BackupAbsent e)
      where
        one : (a b : Refusal) → Some a ≡ Some b → a ≡ b
        one a b e = cc

    next : (a b : Option Refusal) → (a ≡ Some BackupAbsent → ⊥) → option_or a b ≡ Some BackupAbsent → b ≡ Some BackupAbsent
    next None b other e = e
    next (Some x) b other e = absurd (other e)

    not-members : (scope : Scope) (r : Reading) → members_refusal scope.sizes.sectors r ≡ Some BackupAbsent → ⊥
    not-members scope r e =
        let slots : List (Sb × ℕ) = fresh_from r.newest scope.sizes.sectors 0 r.own in
        let one = next (unsupported slots) (first_of_all (bad_field r.newest slots ∷ two_holders slots ∷ members_missing r.newest r.roles ∷ dirty_degraded r.newest r.roles ∷ off_unit r.newest ∷ []))
        (never-mapped (λ (s : Sb × ℕ). Unsupported (refused_bits s.0.feature_map)) (λ x e. absurd (cc)) (find (λ s. not (refused_bits s.0.feature_map == 0)) slots)) e in
        let two = next (option_map (λ (f : ℕ × Bool). BadField f.0) (find (λ (f : ℕ × Bool). f.1) (judged_fields r.newest slots)))
        (option_or (option_map (λ (index : ℕ). BadField (256 + 2 * index)) (first_bad_entry r.newest slots)) (first_of_all (two_holders slots ∷ members_missing r.newest r.roles ∷ dirty_degraded r.newest r.roles ∷ off_unit r.newest ∷ [])))
        (never-mapped (λ (f : ℕ × Bool). BadField f.0) (λ x e. absurd (cc)) (find (λ (f : ℕ × Bool). f.1) (judged_fields r.newest slots)))
        (joined (option_map (λ (f : ℕ × Bool). BadField f.0) (find (λ (f : ℕ × Bool). f.1) (judged_fields r.newest slots))) (option_map (λ (index : ℕ). BadField (256 + 2 * index)) (first_bad_entry r.newest slots))
        (first_of_all (two_holders slots ∷ members_missing r.newest r.roles ∷ dirty_degraded r.newest r.roles ∷ off_unit r.newest ∷ [])) one) in
        let three = next (option_map (λ (index : ℕ). BadField (256 + 2 * index)) (first_bad_entry r.newest slots)) (first_of_all (two_holders slots ∷ members_missing r.newest r.roles ∷ dirty_degraded r.newest r.roles ∷ off_unit r.newest ∷ []))
        (never-mapped (λ (index : ℕ). BadField (256 + 2 * index)) (λ x e. absurd (cc)) (first_bad_entry r.newest slots)) two in
        let four = next (two_holders slots) (first_of_all (members_missing r.newest r.roles ∷ dirty_degraded r.newest r.roles ∷ off_unit r.newest ∷ []))
        (never-mapped (λ (dev : ℕ). TwoHolders dev) (λ x e. absurd (cc)) (shared_dev slots)) three in
        let five = next (members_missing r.newest r.roles) (first_of_all (dirty_degraded r.newest r.roles ∷ off_unit r.newest ∷ []))
        (never-mapped (λ (shape : Shape). MembersMissing (missing_count r.roles shape) (tolerance shape)) (λ x e. absurd (cc)) (find (too_many r.roles) (shapes_in_force r.newest))) four in
        last (is_clean r.newest) (is_reshaping r.newest) (is_multiple r.newest.reshape_position (unit_of r.newest)) (r.newest.reshape_position == list_length r.newest)
        (least_below (role_count r.newest) (λ role. verdicts.is_missing r.roles role && holds_data r.newest role)) five
      where
        joined : (a b d : Option Refusal) → option_or (option_or a b) d ≡ Some BackupAbsent → option_or a (option_or b d) ≡ Some BackupAbsent
        joined None b d e = e
        joined (Some x) b d e = e

        position : (active many end : Bool) → option_or (cond (not active || many || end) None (Some (PositionNotOnUnit r.newest.reshape_position (unit_of r.newest)))) None ≡ Some BackupAbsent → ⊥
        position true false false e = absurd (let clash : PositionNotOnUnit r.newest.reshape_position (unit_of r.newest) ≡ BackupAbsent = cc in cc)
        position true true end e = none-some BackupAbsent e
        position true false true e = none-some BackupAbsent e
        position false many end e = none-some BackupAbsent e

        last : (clean active many end : Bool) (lowest : Option ℕ)
            → option_or (cond clean None (option_map (λ (role : ℕ). DirtyDegraded role) lowest)) (option_or (cond (not active || many || end) None (Some (PositionNotOnUnit r.newest.reshape_position (unit_of r.newest)))) None) ≡ Some BackupAbsent → ⊥
        last false active many end (Some role) e = absurd (let clash : DirtyDegraded role ≡ BackupAbsent = cc in cc)
        last false active many end None e = position active many end e
        last true active many end lowest e = position active many end e

-- a reshape without room in its backup is refused
absent-is : (scope : Scope) (newest : Sb) → LacksBackup scope newest → backup_absent scope newest ≡ Some BackupAbsent
absent-is scope newest lacks = λ i. cond (not (lacks.active i) || roomless scope.backup scope.given (reach_of newest) scope.sizes.sectors lacks.short i) None (Some BackupAbsent)

pub lacking-refused : LackingBackupIsRefused
lacking-refused scope c r is accepted lacks = verdict-of scope c r is ∙ λ i. option_or (accepted i) (absent-is scope r.newest lacks i)

-- ---- a backup that isn't there

module _ (scope without : Scope) (c : Contents) (is : IsWithoutBackup scope without) where
  seen-same : (s : ℕ) → is_seen without s ≡ is_seen scope s
  seen-same s = ap (λ (b : Option ℕ). has_slot without.given s && not (is_backup b s)) is.backup_is ∙ of (is_backup scope.backup s) refl
    where
      never : (a b : Bool) → (a && false) ≡ (b && false)
      never true true = refl
      never true false = refl
      never false true = refl
      never false false = refl

      of : (b : Bool) → is_backup scope.backup s ≡ b → (has_slot without.given s && not (is_backup scope.backup s)) ≡ (has_slot scope.given s && not (is_backup scope.backup s))
      of true here = ap (λ (t : Bool). has_slot without.given s && not t) here ∙ never (has_slot without.given s) (has_slot scope.given s) ∙ sym (ap (λ (t : Bool). has_slot scope.given s && not t) here)
      of false here = ap (λ (t : Bool). t && not (is_backup scope.backup s)) (is.given s here)

  one-same : (s : ℕ) → seen_superblock without c s ≡ seen_superblock scope c s
  one-same s = λ i. cond (seen-same s i) (superblock_in ((is.sizes_are i).sectors s) (c s)) None

  pub superblocks-same : seen_superblocks without c ≡ seen_superblocks scope c
  superblocks-same = λ i. tabulate (is.sizes_are i).slots (λ s. one-same s i)

  own-same : superblocks without c ≡ superblocks scope c
  own-same = λ i. tabulate (is.sizes_are i).slots (λ s. of_array (is.uuid i) (one-same s i))

  pub reading-same : reading without c ≡ reading scope c
  unfolding reading
  reading-same = λ i. reading_of (is.sizes_are i).sectors (own-same i)

  pub lost-refused : (r : Reading) → verdict scope c ≡ None → reading scope c ≡ Some r → is_reshaping r.newest ≡ true → verdict without c ≡ Some BackupAbsent
  lost-refused r none here active =
      let all = both-none (members_refusal scope.sizes.sectors r) (backup_absent scope r.newest) (sym (verdict-of scope c r here) ∙ none) in
      lacking-refused without c r (reading-same ∙ here) (ap (λ (z : Sizes). members_refusal z.sectors r) is.sizes_are ∙ all.0) (record {
        active = active;
        short = λ backup there has. absurd (let out = is.absent backup (sym is.backup_is ∙ there) in let clash = sym has ∙ out in cc);
      })

pub backups-without : BackupsHaveNoSuperblock
backups-without scope without c is = superblocks-same scope without c is

pub lost-backup : LostBackupIsRefused
lost-backup scope without c r is none here active = lost-refused scope without c is r none here active
