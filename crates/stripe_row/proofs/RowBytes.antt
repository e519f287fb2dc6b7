-- A sector put into a row that lies role after role.
use Rattle.std.proofs.Common.{◌≡◌, ◌≢◌, inl, inr, ℕ, ◌+◌, ◌-◌, ◌*◌, ◌≤◌, List, length, take, drop, sym, ◌∙◌, ap, arith, Result, Ok, Err}
use Rattle.std.specs.Prelude.{OnOk}
use Rattle.std.proofs.lemmas.Bool.{cases_lt}
use Rattle.std.proofs.lemmas.Slice.{drop-put_mid}
use borrow.Rule.Slice.PartMut.{put_mid}
use Rattle.sb_specs.proofs.bank_Present.{copied_below, copied_here}
use Rattle.raid_parity_simd.specs.raid_parity_Rows.{sector_of}

-- a role's sector in as few words
plain : (bytes : List ℕ) (role : ℕ) → sector_of bytes role ≡ take 512 (drop (512 * role) bytes)
plain bytes role =
    let n : 512 * role + 512 - 512 * role ≡ 512 = omega arith in
    ap (λ (m : ℕ). take m (drop (512 * role) bytes)) n

pub sector-put_here : (bytes sector : List ℕ) (role : ℕ) → 512 * role + 512 ≤ length bytes → length sector ≡ 512
    → sector_of (put_mid (512 * role) (512 * role + 512 - 512 * role) bytes sector) role ≡ sector
sector-put_here bytes sector role le size =
    plain (put_mid (512 * role) (512 * role + 512 - 512 * role) bytes sector) role ∙ copied_here bytes sector role (omega (arith, le)) size

pub sector-put_other : (bytes sector : List ℕ) (role other : ℕ) → 512 * role + 512 ≤ length bytes → length sector ≡ 512 → other ≢ role
    → sector_of (put_mid (512 * role) (512 * role + 512 - 512 * role) bytes sector) other ≡ sector_of bytes other
sector-put_other bytes sector role other le size ne =
    plain (put_mid (512 * role) (512 * role + 512 - 512 * role) bytes sector) other
    ∙ elim (cases_lt other role) [
      | inl below ↦ copied_below bytes sector role other below (omega (arith, le))
      | inr above ↦ ap (λ (l : List ℕ). take 512 l)
          (drop-put_mid (512 * role) (512 * role + 512 - 512 * role) bytes sector (512 * other) (omega (arith, above, ne)) (omega (arith, le)) (omega (arith, size)))
    ]
    ∙ sym (plain bytes other)

-- what follows of an Ok
pub on_ok : {T E : Type 0} {P Q : Type 0} (r : Result T E) → (P → Q) → OnOk r P → OnOk r Q
on_ok (Ok x) f p = f p
on_ok (Err e) f p = tt
