-- What the slots hold is their start with the tape applied, after one more call.
use Rattle.std.proofs.Common.{◌≡◌, ◌≢◌, inl, inr, ℕ, suc, ◌+◌, ◌-◌, ◌*◌, ◌<◌, ◌≤◌, List, [], ◌∷◌, ◌++◌, length, take, drop, get_or, set, None, All, refl, sym, ◌∙◌, ap, subst, append-nil, arith, length-set}
use Rattle.std.proofs.lemmas.Bool.{cases_lt, cases_eq}
use Rattle.std.proofs.lemmas.List.{ext_get_or, length-take-le, length-drop, get_or-take, get_or-drop, get_or_past, take_all, get_or-set_same, get_or-set_other}
use Rattle.std.proofs.lemmas.List.Elements.{All-append, All-push}
use Rattle.bank.proofs.raid_types_Tabulated.{length-tabulate, get_or-tabulate}
use Rattle.bank.specs.raid_types_Sectors.{Sector, IsSector}
use Rattle.bank.specs.declared.bank.Operation.{Operation}
use Rattle.bank.specs.declared.bank.Operation.TheVariants.{Flush}
use Rattle.bank.specs.Tape.{writes, value_after, contents, AreSectors}
use Rattle.bank.specs.Whole.{WritesSector}
use Rattle.bank.proofs.Laws.{value_after-append}
use Rattle.bank_file.specs.Bytes.{AreBytes, IsPut, AreSame}
use Rattle.bank_file.specs.Logs.{Log, IsLogged, IsSynced, AreKept}
use Rattle.bank_file.specs.Images.{sector_in, bytes_at, log_at, tape_of, IsConsistent}
use Rattle.bank_file.specs.declared.device.Done.TheVariants.{Synced}
use Rattle.bank_file.proofs.Tapes.{tape-same, done-here, tape-writes, writes-elsewhere, writes-here, writes-whole}

-- ---- sectors of bytes

pub sector-same : (before after : ℕ → ℕ) (k : ℕ) → ((j : ℕ) → j < 512 → after (512 * k + j) ≡ before (512 * k + j)) → sector_in after k ≡ sector_in before k
sector-same before after k same = ext_get_or 0 (sector_in after k) (sector_in before k) (omega (arith, length-tabulate 512 (λ j. after (512 * k + j)), length-tabulate 512 (λ j. before (512 * k + j)))) (λ j lt.
    let within : j < 512 = omega (arith, lt, length-tabulate 512 (λ j. after (512 * k + j))) in
    get_or-tabulate 512 (λ j. after (512 * k + j)) j 0 within ∙ same j within ∙ sym (get_or-tabulate 512 (λ j. before (512 * k + j)) j 0 within))

-- those that a buffer holds
pub sector-is : (bytes : ℕ → ℕ) (k i : ℕ) (buffer : List ℕ) → 512 * i + 512 ≤ length buffer → ((j : ℕ) → j < 512 → bytes (512 * k + j) ≡ get_or buffer (512 * i + j) 0) → sector_in bytes k ≡ take 512 (drop (512 * i) buffer)
sector-is bytes k i buffer long same = ext_get_or 0 (sector_in bytes k) (take 512 (drop (512 * i) buffer)) (length-tabulate 512 (λ j. bytes (512 * k + j)) ∙ sym (length-take-le 512 (drop (512 * i) buffer) (omega (arith, long, length-drop (512 * i) buffer)))) (λ j lt.
    let within : j < 512 = omega (arith, lt, length-tabulate 512 (λ j. bytes (512 * k + j))) in
    get_or-tabulate 512 (λ j. bytes (512 * k + j)) j 0 within ∙ same j within ∙ sym (get_or-drop (512 * i) buffer j 0) ∙ sym (get_or-take 512 (drop (512 * i) buffer) j 0 within))

pub sector-whole : (bytes : ℕ → ℕ) (k : ℕ) → ((i : ℕ) → bytes i < 256) → IsSector (sector_in bytes k)
sector-whole bytes k small = record {
  whole = length-tabulate 512 (λ j. bytes (512 * k + j));
  bytes = λ at. elim (cases_lt at 512) [
    | inl below ↦ omega (arith, get_or-tabulate 512 (λ j. bytes (512 * k + j)) at 0 below, small (512 * k + at))
    | inr past ↦ omega (arith, get_or_past (sector_in bytes k) at 0 (omega (arith, past, length-tabulate 512 (λ j. bytes (512 * k + j)))))
  ];
}

-- ---- a call on one slot

module _ (starts bytes : List (ℕ → ℕ)) (logs : List Log) (ops slot : ℕ) (was : IsConsistent starts bytes logs ops) (known : slot < length logs) (as_many : length bytes ≡ length logs) where
  -- another slot
  others : (bytes' : ℕ → ℕ) (log' : Log) (s i : ℕ) → s ≢ slot → log_at (set logs slot log') s i ≡ log_at logs s i
  others bytes' log' s i apart = ap (λ (l : Log). l i) (get_or-set_other logs slot s log' (λ i. None) apart)

  free-after : (log' : Log) (ops' : ℕ) → ops ≤ ops' → ((i : ℕ) → ops' ≤ i → log' i ≡ log_at logs slot i) → (s i : ℕ) → ops' ≤ i → log_at (set logs slot log') s i ≡ None
  free-after log' ops' more same s i past = elim (cases_eq s slot) [
    | inl here ↦ ap (λ (t : ℕ). log_at (set logs slot log') t i) here ∙ ap (λ (l : Log). l i) (get_or-set_same logs slot log' (λ i. None) known) ∙ same i past ∙ was.free slot i (omega (arith, more, past))
    | inr apart ↦ others (λ i. 0) log' s i apart ∙ was.free s i (omega (arith, more, past))
  ]

  -- what the slots hold, where the ops that are appended leave all but this slot's sectors
  present-after : (bytes' : ℕ → ℕ) (ops' : List Operation) → ((k : ℕ) → sector_in bytes' k ≡ value_after slot k (sector_in (bytes_at bytes slot) k) ops') → ((s k : ℕ) (v : Sector) → s ≢ slot → value_after s k v ops' ≡ v)
      → (s k : ℕ) → s < length logs → sector_in (bytes_at (set bytes slot bytes') s) k ≡ value_after s k (sector_in (bytes_at starts s) k) (tape_of logs ops ++ ops')
  present-after bytes' ops' here apart s k there =
      let cut = value_after-append s k (sector_in (bytes_at starts s) k) (tape_of logs ops) ops' in
      elim (cases_eq s slot) [
        | inl same ↦
            let now : bytes_at (set bytes slot bytes') s ≡ bytes' = ap (λ (t : ℕ). bytes_at (set bytes slot bytes') t) same ∙ get_or-set_same bytes slot bytes' (λ i. 0) (omega (arith, known, as_many)) in
            let here_again : slot ≡ s = sym same in
            let was_here : sector_in (bytes_at bytes slot) k ≡ value_after s k (sector_in (bytes_at starts s) k) (tape_of logs ops) = ap (λ (t : ℕ). sector_in (bytes_at bytes t) k) (sym same) ∙ was.present s k there in
            ap (λ (f : ℕ → ℕ). sector_in f k) now ∙ here k ∙ (λ i. value_after (here_again i) k (was_here i) ops') ∙ sym cut
        | inr other ↦
            ap (λ (f : ℕ → ℕ). sector_in f k) (get_or-set_other bytes slot s bytes' (λ i. 0) other) ∙ was.present s k there ∙ sym (apart s k (value_after s k (sector_in (bytes_at starts s) k) (tape_of logs ops)) other) ∙ sym cut
      ]

  pub read_step : (bytes' : ℕ → ℕ) (log' : Log) → AreSame (bytes_at bytes slot) bytes' → AreKept (log_at logs slot) log' → IsConsistent starts (set bytes slot bytes') (set logs slot log') ops
  read_step bytes' log' same kept =
      let tape : tape_of (set logs slot log') ops ≡ tape_of logs ops ++ [] = tape-same logs slot log' ops (λ i lt. kept i) ∙ sym (append-nil (tape_of logs ops)) in
      record {
        free = free-after log' ops (omega arith) (λ i past. kept i);
        present = λ s k there. present-after bytes' [] (λ k. sector-same (bytes_at bytes slot) bytes' k (λ j lt. same (512 * k + j))) (λ s k v apart. refl) s k (omega (arith, there, length-set logs slot log'))
            ∙ ap (λ (l : List Operation). value_after s k (sector_in (bytes_at starts s) k) l) (sym tape);
        written = subst (λ (l : List Operation). All WritesSector l) (sym (tape ∙ append-nil (tape_of logs ops))) was.written;
        stored = was.stored;
      }

  pub flush_tape : (log' : Log) → IsSynced (log_at logs slot) log' ops → tape_of (set logs slot log') (ops + 1) ≡ tape_of logs ops ++ Flush slot ∷ []
  flush_tape log' synced =
      let before = tape-same logs slot log' ops (λ i lt. synced.others i (λ e. absurd (omega (arith, e, lt)))) in
      let last = done-here logs 0 slot ops log' Synced known (λ s. was.free s ops (omega arith)) synced.here in
      let place : 0 + slot ≡ slot = omega arith in
      let next : ops + 1 ≡ suc ops = omega arith in
      ap (λ (m : ℕ). tape_of (set logs slot log') m) next ∙ (λ i. before i ++ last i ∷ []) ∙ ap (λ (s : ℕ). tape_of logs ops ++ Flush s ∷ []) place

  pub flush_step : (bytes' : ℕ → ℕ) (log' : Log) → AreSame (bytes_at bytes slot) bytes' → IsSynced (log_at logs slot) log' ops → IsConsistent starts (set bytes slot bytes') (set logs slot log') (ops + 1)
  flush_step bytes' log' same synced =
      let tape = flush_tape log' synced in
      record {
        free = free-after log' (ops + 1) (omega arith) (λ i past. synced.others i (λ e. absurd (omega (arith, e, past))));
        present = λ s k there. present-after bytes' (Flush slot ∷ []) (λ k. sector-same (bytes_at bytes slot) bytes' k (λ j lt. same (512 * k + j))) (λ s k v apart. refl) s k (omega (arith, there, length-set logs slot log'))
            ∙ ap (λ (l : List Operation). value_after s k (sector_in (bytes_at starts s) k) l) (sym tape);
        written = subst (λ (l : List Operation). All WritesSector l) (sym tape) (All-push WritesSector (tape_of logs ops) (Flush slot) was.written tt);
        stored = was.stored;
      }

  module _ (bytes' : ℕ → ℕ) (log' : Log) (at count n : ℕ) (buffer : List ℕ) (put : IsPut (bytes_at bytes slot) bytes' (512 * at) (512 * count) buffer) (logged : IsLogged (log_at logs slot) log' ops at count buffer)
      (most : count ≤ n) (long : 512 * n ≤ length buffer) (small : (i : ℕ) → get_or buffer i 0 < 256) where
    pub write_tape : tape_of (set logs slot log') (ops + count) ≡ tape_of logs ops ++ take count (writes slot at n buffer)
    write_tape = tape-writes logs slot log' ops at count n buffer known was.free logged most count (omega arith)

    written-here : (k : ℕ) → sector_in bytes' k ≡ value_after slot k (sector_in (bytes_at bytes slot) k) (take count (writes slot at n buffer))
    written-here k = elim (cases_lt k at) [
      | inl below ↦ sector-same (bytes_at bytes slot) bytes' k (λ j lt. put.outside (512 * k + j) (inl (omega (arith, lt, below)))) ∙ sym (writes-elsewhere slot k slot at n count buffer (sector_in (bytes_at bytes slot) k) (inr (inl below)))
      | inr from ↦ elim (cases_lt k (at + count)) [
        | inl within ↦
            let place : at + (k - at) ≡ k = omega (arith, from) in
            sector-is bytes' k (k - at) buffer (omega (arith, from, within, most, long)) (λ j lt. ap (λ (m : ℕ). bytes' m) (omega (arith, from)) ∙ put.inside (512 * (k - at) + j) (omega (arith, lt, from, within)))
            ∙ sym (writes-here slot at n count (k - at) buffer (sector_in (bytes_at bytes slot) k) (omega (arith, from, within)) most)
            ∙ ap (λ (m : ℕ). value_after slot m (sector_in (bytes_at bytes slot) k) (take count (writes slot at n buffer))) place
        | inr past ↦ sector-same (bytes_at bytes slot) bytes' k (λ j lt. put.outside (512 * k + j) (inr (omega (arith, past)))) ∙ sym (writes-elsewhere slot k slot at n count buffer (sector_in (bytes_at bytes slot) k) (inr (inr past)))
      ]
    ]

    pub write_step : IsConsistent starts (set bytes slot bytes') (set logs slot log') (ops + count)
    write_step = record {
      free = free-after log' (ops + count) (omega arith) (λ i past. logged.outside i (inr past));
      present = λ s k there. present-after bytes' (take count (writes slot at n buffer)) written-here (λ s k v apart. writes-elsewhere s k slot at n count buffer v (inl apart)) s k (omega (arith, there, length-set logs slot log'))
          ∙ ap (λ (l : List Operation). value_after s k (sector_in (bytes_at starts s) k) l) (sym write_tape);
      written = subst (λ (l : List Operation). All WritesSector l) (sym write_tape) (All-append WritesSector (tape_of logs ops) (take count (writes slot at n buffer)) was.written (writes-whole slot at n count buffer long small));
      stored = was.stored;
    }

  -- what a read gives are the present contents
  pub read_sectors : (at : ℕ) (into : List ℕ) → AreBytes (bytes_at bytes slot) (512 * at) (length into) into
      → AreSectors (contents (λ s. sector_in (bytes_at starts s)) (tape_of logs ops) (length (tape_of logs ops)) slot) at into
  read_sectors at into read i lt =
      let all : take (length (tape_of logs ops)) (tape_of logs ops) ≡ tape_of logs ops = take_all (length (tape_of logs ops)) (tape_of logs ops) (omega arith) in
      sym (sector-is (bytes_at bytes slot) (at + i) i into (omega (arith, lt)) (λ j within. ap (λ (m : ℕ). bytes_at bytes slot m) (omega arith) ∙ sym (read (512 * i + j) (omega (arith, lt, within)))))
      ∙ was.present slot (at + i) known ∙ ap (λ (l : List Operation). value_after slot (at + i) (sector_in (bytes_at starts slot) (at + i)) l) (sym all)
