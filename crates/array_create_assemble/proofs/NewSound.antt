-- What is read whole and has good rows is sound: so is a new array.
use Rattle.std.proofs.Common.{◌≡◌, ℕ, ◌<◌, false, length, Some, ap, sym, ◌∙◌, subst, arith}
use Rattle.array_found_laws.specs.raid_types_the_Shape.{Shape}
use Rattle.array_found_laws.specs.raid_types_Search.{tabulate}
use Rattle.bank.specs.Tape.{Contents}
use Rattle.array_found_laws.specs.raid_layout_Layout.{place, row_roles}
use Rattle.array_found_laws.proofs.raid_layout_Places.{place-row_below}
use Rattle.array_found_laws.specs.raid_parity_Parity.{Row, lacking_in, AreEquationsMet}
use Rattle.array_found_laws.proofs.raid_parity_Lacking.{lacking_in-row, lack_list-none}
use Rattle.array_found_laws.specs.sb_specs_Reading.{Scope, Reading}
use Rattle.sb_add_spare.specs.history_Opened.{IsSound}
use Rattle.sb_add_spare.specs.history_Reshaped.{IsGoodRow}
use Rattle.sb_add_spare.specs.history_Stands.{held_sector, held_row}
use Rattle.sb_add_spare.specs.array_members_Rows.{AreGoodRows}
use Rattle.sb_add_spare.specs.array_members_Whole.{Places, AreFit, in_row, list_size, IsReadWhole}
use Rattle.sb_add_spare.proofs.array_members_WholeLaws.{length-is, shape-is, held-is}
use Rattle.array_create_assemble.proofs.MadeLaws.{same-tabulated}

module _ (scope : Scope) (p : Places) (fit : AreFit p) (c : Contents) (r : Reading) (whole : IsReadWhole scope p r) (good : AreGoodRows p c) where
  -- every role holds its sector of a row
  held-all : (row : ℕ) → row < p.size → held_row c r p.shape row ≡ tabulate p.shape.disks (λ role. Some (in_row p c row role))
  held-all row short =
      same-tabulated p.shape.disks (λ role. held_sector c r role row) (λ role. Some (in_row p c row role)) (λ role lt. held-is scope p fit c r whole role row lt short)

  none-lacks : (row : ℕ) → row < p.size → length (lacking_in (held_row c r p.shape row)) ≡ 0
  none-lacks row short =
      ap (λ (l : Row). length (lacking_in l)) (held-all row short)
      ∙ ap length (lacking_in-row (λ role. false) p.shape.disks (λ role. in_row p c row role) ∙ lack_list-none p.shape.disks)

  good-row : (row : ℕ) → row < p.size → IsGoodRow c r p.shape row
  good-row row short = record {
    tolerated = let none = none-lacks row short in omega (arith, none);
    parity = subst (λ (l : Row). AreEquationsMet (row_roles p.shape row) l) (sym (held-all row short)) (good row short);
  }

  -- no reshape is active, so that only its rows are asked for
  pub whole-sound : IsSound scope c r
  whole-sound = record {
    rows = λ clean x within free.
        let inside : x < list_size p = omega (arith, within, length-is scope p fit c r whole) in
        subst (λ (s : Shape). IsGoodRow c r s (place s x).row) (sym (shape-is scope p fit c r whole x))
        (good-row (place p.shape x).row (place-row_below p.shape fit.valid x p.size fit.multiple inside));
    sections = λ active. absurd (let still = whole.still in cc);
    tail = λ active. absurd (let still = whole.still in cc);
  }
