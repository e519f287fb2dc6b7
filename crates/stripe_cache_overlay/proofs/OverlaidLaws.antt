-- Sectors of a row that a cache holds, and rows that stay.
use Rattle.std.proofs.Common.{◌≡◌, ℕ, zero, suc, ◌+◌, ◌-◌, ◌*◌, ◌/◌, ◌<◌, List, [], length, take, drop, Option, Some, None, refl, sym, ◌∙◌, ap, subst, arith}
use Rattle.std.specs.Prelude.{slice_index_or, IfSome, MatchOption, is_some, true, false}
use Rattle.std.proofs.lemmas.List.{drop-drop}
use Rattle.raid_layout.specs.raid_types_the_Side.{Side}
use Rattle.raid_layout.specs.raid_types_Sectors.{Sector, first_sectors, sectors_of}
use Rattle.raid_parity.specs.Rows.{sector_of}
use Rattle.stripe_delayed_rows.specs.stripe_cache_the_Cached.{Cached}
use Rattle.stripe_delayed_rows.specs.stripe_cache_Rows.{Rows, used}
use Rattle.stripe_delayed_rows.specs.stripe_cache_Apart.{IsCache}
use Rattle.stripe_delayed_rows.proofs.stripe_cache_Laws.{held_row-used, IsCache-used}
use Rattle.stripe_cache_overlay.specs.Overlaid.{AreSameRows, IsOver}

-- a sector in as few words
plain : (bytes : List ℕ) (role : ℕ) → sector_of bytes role ≡ take 512 (drop (512 * role) bytes)
plain bytes role =
    let n : 512 * role + 512 - 512 * role ≡ 512 = omega arith in
    ap (λ (m : ℕ). take m (drop (512 * role) bytes)) n

first_sectors-at : (n i : ℕ) (bytes : List ℕ) → i < n → slice_index_or (first_sectors n bytes) i [] ≡ take 512 (drop (512 * i) bytes)
first_sectors-at zero i bytes lt = absurd (omega (arith, lt))
first_sectors-at (suc n) zero bytes lt = refl
first_sectors-at (suc n) (suc i) bytes lt =
    let far : 512 + 512 * i ≡ 512 * suc i = omega arith in
    first_sectors-at n i (drop 512 bytes) (omega (arith, lt)) ∙ ap (λ (l : List ℕ). take 512 l) (drop-drop (512 * i) 512 bytes ∙ ap (λ (m : ℕ). drop m bytes) far)

-- a sector of a row's bytes
pub sector-at : (bytes : List ℕ) (role : ℕ) → role < length bytes / 512 → slice_index_or (sectors_of bytes) role [] ≡ sector_of bytes role
sector-at bytes role lt = first_sectors-at (length bytes / 512) role bytes lt ∙ sym (plain bytes role)

pub same-used : (side : Side) (row : ℕ) (rows new : Rows) → IsCache rows → new ≡ used side row rows → AreSameRows rows new
same-used side row rows new cache is = subst (λ (r : Rows). AreSameRows rows r) (sym is) (record {
  held = held_row-used side row rows cache;
  room = refl;
  cache = λ c. IsCache-used side row rows c;
})

pub same-then : (a b c : Rows) → AreSameRows a b → AreSameRows b c → AreSameRows a c
same-then a b c first second = record {
  held = λ side row. second.held side row ∙ first.held side row;
  room = second.room ∙ first.room;
  cache = λ is. second.cache (first.cache is);
}

pub same-self : (a : Rows) → AreSameRows a a
same-self a = record { held = λ side row. refl; room = refl; cache = λ is. is }

-- a row's bytes fit where its sectors are as many as the disks
pub look-fits : (o : Option Cached) (disks size : ℕ) → IfSome o (λ held. length held.body ≡ disks) → size ≡ 512 * disks → IfSome o (λ held. size ≡ 512 * length held.body)
look-fits None disks size few is = tt
look-fits (Some c) disks size few is = is ∙ ap (λ (n : ℕ). 512 * n) (sym few)

-- what was copied is the row's
pub laid : (o : Option Cached) (role : ℕ) (old new : Sector) (row row' : List ℕ) → is_some o ≡ true → MatchOption o (row' ≡ row) (λ held. sectors_of row' ≡ held.body)
    → new ≡ sector_of row' role → role < length row' / 512 → IsOver o role old new
laid None role old new row row' found body is lt = absurd (cc)
laid (Some c) role old new row row' found body is lt = is ∙ sym (sector-at row' role lt) ∙ ap (λ (b : List Sector). slice_index_or b role []) body

pub unlaid : (o : Option Cached) (role : ℕ) (old new : Sector) → is_some o ≡ false → new ≡ old → IsOver o role old new
unlaid None role old new none is = is
unlaid (Some c) role old new none is = absurd (cc)

-- a row that was looked up is the cache's, or as it was
pub laid-row : (o : Option Cached) (role : ℕ) (row row' : List ℕ) → MatchOption o (row' ≡ row) (λ held. sectors_of row' ≡ held.body) → role < length row' / 512 → IsOver o role (sector_of row role) (sector_of row' role)
laid-row None role row row' body lt = ap (λ (b : List ℕ). sector_of b role) body
laid-row (Some c) role row row' body lt = sym (sector-at row' role lt) ∙ ap (λ (b : List Sector). slice_index_or b role []) body
