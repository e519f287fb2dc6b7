-- A good row of which some roles lack is a good row with these filled. So where more of its roles are lost later, what
-- they had there is what they are filled with.
use Rattle.std.proofs.Common.{◌≡◌, ◌≢◌, inl, inr, ℕ, ◌/◌, ◌%◌, ◌^◌, ◌<◌, ◌≤◌, Bool, true, false, cond, List, [], ◌∷◌, length, get_or, unwrap_or, refl, sym, ap, ap₂, ◌∙◌, arith}
use Rattle.std.proofs.lemmas.Bool.{cases_lt, cases_eq, and_parts}
use Rattle.std.proofs.lemmas.List.{get_or_past}
use Rattle.raid_types.specs.declared.places.RowRoles.{RowRoles}
use Rattle.raid_types.specs.Search.{tabulate, least_below}
use Rattle.raid_types.specs.Sectors.{Sector}
use Rattle.raid_types.proofs.Tabulated.{length-tabulate, get_or-tabulate}
use Rattle.raid_parity.specs.Parity.{p_holds, q_holds, fits, with_digits, filled, fill, lacking_in, column, AreEquationsMet}
use Rattle.raid_parity.specs.Rows.{IsSector, row_without, whole_row, filled_sector}
use Rattle.raid_parity.proofs.Totals.{put, put-same, put-other}
use Rattle.raid_parity.proofs.Columns.{bool_cases, tabulate-same, set-tabulate}
use Rattle.raid_parity.proofs.Filling.{digits_two}
use Rattle.raid_parity.proofs.Lacking.{lack_list, lacking_in-row, Known, known, held, held-there, column-row}
use Rattle.raid_parity.proofs.Contents.{filled-none, whole-good}

-- a column that keeps f where nothing lacks, and has bytes
record IsRefilled (lacks : ℕ → Bool) (n : ℕ) (f h : ℕ → ℕ) : Type 0 where
  kept : (r : ℕ) → r < n → lacks r ≡ false → h r ≡ f r
  bytes : (r : ℕ) → r < n → h r < 256

digits_found : (roles : RowRoles) (xs c : List ℕ) → (k : ℕ) × (filled roles xs c ≡ with_digits xs k c)
unfolding filled
digits_found roles xs c = (unwrap_or (least_below (256 ^ length xs) (λ n. fits roles xs (with_digits xs n c))) 0, refl)

module _ (roles : RowRoles) (lacks : ℕ → Bool) (n : ℕ) (f : ℕ → ℕ) (small : (r : ℕ) → r < n → f r < 256) where
  not_lacking : (a r : ℕ) → lacks a ≡ true → lacks r ≡ false → r ≢ a
  not_lacking a r there free e = let here : lacks r ≡ true = ap lacks e ∙ there in absurd (cc)

  kept_at : (r : ℕ) → r < n → lacks r ≡ false → held lacks f r < 256
  kept_at r lt free = rw (held-there lacks f r free) (small r lt)

  refilled : (xs : List ℕ) → Known lacks n xs → length xs ≤ 2 → (h : ℕ → ℕ) × (filled roles xs (tabulate n (held lacks f)) ≡ tabulate n h) × IsRefilled lacks n f h
  refilled [] all few = (
    held lacks f,
    filled-none roles (tabulate n (held lacks f)),
    record {
      kept = λ r lt free. held-there lacks f r free;
      bytes = λ r lt. kept_at r lt (all r lt);
    },
  )
  refilled (a ∷ []) one few =
      let found : (k : ℕ) × (filled roles (a ∷ []) (tabulate n (held lacks f)) ≡ with_digits (a ∷ []) k (tabulate n (held lacks f))) = digits_found roles (a ∷ []) (tabulate n (held lacks f)) in (
        put (held lacks f) a (found.0 % 256),
        found.1 ∙ set-tabulate n a (found.0 % 256) (held lacks f) one.0,
        record {
          kept = λ r lt free. put-other (held lacks f) a (found.0 % 256) r (not_lacking a r one.1 free) ∙ held-there lacks f r free;
          bytes = λ r lt. elim (cases_eq r a) [
            | inl e ↦ rw (e, put-same (held lacks f) a (found.0 % 256)) (omega arith)
            | inr ne ↦ rw (put-other (held lacks f) a (found.0 % 256) r ne) (kept_at r lt (one.2 r lt ne))
          ];
        },
      )
  refilled (a ∷ b ∷ []) two few =
      let found : (k : ℕ) × (filled roles (a ∷ b ∷ []) (tabulate n (held lacks f)) ≡ with_digits (a ∷ b ∷ []) k (tabulate n (held lacks f))) = digits_found roles (a ∷ b ∷ []) (tabulate n (held lacks f)) in
      let x : ℕ = found.0 % 256 in
      let y : ℕ = found.0 / 256 % 256 in (
        put (put (held lacks f) a x) b y,
        found.1 ∙ digits_two n a b found.0 (held lacks f) (omega (arith, two.0, two.1)) two.1,
        record {
          kept = λ r lt free.
              put-other (put (held lacks f) a x) b y r (not_lacking b r two.3 free) ∙ put-other (held lacks f) a x r (not_lacking a r two.2 free) ∙ held-there lacks f r free;
          bytes = λ r lt. elim (cases_eq r b) [
            | inl e ↦ rw (e, put-same (put (held lacks f) a x) b y) (omega arith)
            | inr nb ↦ rw (put-other (put (held lacks f) a x) b y r nb) (elim (cases_eq r a) [
              | inl e ↦ rw (e, put-same (held lacks f) a x) (omega arith)
              | inr na ↦ rw (put-other (held lacks f) a x r na) (kept_at r lt (two.4 r lt na nb))
            ])
          ];
        },
      )
  refilled (a ∷ b ∷ c ∷ more) three few = absurd (omega arith)

module _ (roles : RowRoles) (sectors : ℕ → Sector) (whole : (r : ℕ) → r < roles.disks → IsSector (sectors r)) (lacks : ℕ → Bool)
    (tolerated : length (lacking_in (row_without lacks roles.disks sectors)) ≤ 2) where
  abbrev n : ℕ
  n = roles.disks

  abbrev refill : (at : ℕ) → (h : ℕ → ℕ) × (filled roles (lack_list lacks n) (tabulate n (held lacks (λ r. get_or (sectors r) at 0))) ≡ tabulate n h) × IsRefilled lacks n (λ r. get_or (sectors r) at 0) h
  refill at =
      refilled roles lacks n (λ r. get_or (sectors r) at 0) (λ r lt. (whole r lt).bytes at) (lack_list lacks n) (known lacks n)
      (few (length (lack_list lacks n)) (length (lacking_in (row_without lacks n sectors))) (ap length (lacking_in-row lacks n sectors)) tolerated)
    where
      few : (a b : ℕ) → b ≡ a → b ≤ 2 → a ≤ 2
      few a b e le = omega arith

  column_filled : (at : ℕ) → at < 512 → filled roles (lacking_in (row_without lacks n sectors)) (column (row_without lacks n sectors) at) ≡ tabulate n (refill at).0
  column_filled at lt = ap₂ (λ xs c. filled roles xs c) (lacking_in-row lacks n sectors) (column-row lacks n sectors at lt) ∙ (refill at).1

  fill_byte : (role at : ℕ) → role < n → at < 512 → get_or (fill roles (row_without lacks n sectors) role) at 0 ≡ (refill at).0 role
  unfolding fill
  fill_byte role at lt below =
      get_or-tabulate 512 (λ k. get_or (filled roles (lacking_in (row_without lacks n sectors)) (column (row_without lacks n sectors) k)) role 0) at 0 below
      ∙ ap (λ c. get_or c role 0) (column_filled at below) ∙ get_or-tabulate n (refill at).0 role 0 lt

  fill-length : (role : ℕ) → length (fill roles (row_without lacks n sectors) role) ≡ 512
  unfolding fill
  fill-length role = length-tabulate 512 (λ k. get_or (filled roles (lacking_in (row_without lacks n sectors)) (column (row_without lacks n sectors) k)) role 0)

  -- a fill is a sector
  pub fill-sector : (role : ℕ) → role < n → IsSector (fill roles (row_without lacks n sectors) role)
  fill-sector role lt = record {
    whole = fill-length role;
    bytes = λ at. elim (cases_lt at 512) [
      | inl below ↦ rw (fill_byte role at lt below) ((refill at).2.bytes role lt)
      | inr past ↦ rw (get_or_past (fill roles (row_without lacks n sectors) role) at 0 (omega (arith, fill-length role, past))) (omega arith)
    ];
  }

  pub filled-sector : (role : ℕ) → role < n → IsSector (filled_sector roles lacks n sectors role)
  filled-sector role lt = elim (bool_cases (lacks role)) [
    | inl lacking ↦ rw lacking (fill-sector role lt)
    | inr free ↦ rw free (whole role lt)
  ]

  filled_byte : (at : ℕ) → at < 512 → (r : ℕ) → r < n → get_or (filled_sector roles lacks n sectors r) at 0 ≡ (refill at).0 r
  filled_byte at below r lt = elim (bool_cases (lacks r)) [
    | inl lacking ↦ ap (λ b. get_or (cond b (fill roles (row_without lacks n sectors) r) (sectors r)) at 0) lacking ∙ fill_byte r at lt below
    | inr free ↦ ap (λ b. get_or (cond b (fill roles (row_without lacks n sectors) r) (sectors r)) at 0) free ∙ sym ((refill at).2.kept r lt free)
  ]

  filled_column : (at : ℕ) → at < 512
      → tabulate n (λ r. get_or (filled_sector roles lacks n sectors r) at 0) ≡ filled roles (lacking_in (row_without lacks n sectors)) (column (row_without lacks n sectors) at)
  filled_column at below = tabulate-same n (λ r. get_or (filled_sector roles lacks n sectors r) at 0) (refill at).0 (filled_byte at below) ∙ sym (column_filled at below)

  -- where the row is good, so is the row with its lacking sectors filled
  pub good-filled : AreEquationsMet roles (row_without lacks n sectors) → AreEquationsMet roles (whole_row n (filled_sector roles lacks n sectors))
  good-filled good =
      whole-good roles n (filled_sector roles lacks n sectors) (λ at below. ap (p_holds roles) (filled_column at below) ∙ (parts at below).0) (λ at below. ap (q_holds roles) (filled_column at below) ∙ (parts at below).1)
    where
      parts : (at : ℕ) → at < 512 → (p_holds roles (filled roles (lacking_in (row_without lacks roles.disks sectors)) (column (row_without lacks roles.disks sectors) at)) ≡ true)
          × (q_holds roles (filled roles (lacking_in (row_without lacks roles.disks sectors)) (column (row_without lacks roles.disks sectors) at)) ≡ true)
      parts at below = and_parts (p_holds roles (filled roles (lacking_in (row_without lacks roles.disks sectors)) (column (row_without lacks roles.disks sectors) at)))
          (q_holds roles (filled roles (lacking_in (row_without lacks roles.disks sectors)) (column (row_without lacks roles.disks sectors) at))) (good at below)
