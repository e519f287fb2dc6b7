-- Payloads that are passed over, and frames that are cut off.
use Rattle.std.proofs.Common.{◌≡◌, ℕ, ◌<◌, List, ◌++◌, length, take, Result, Ok, Err, refl, sym, ap, ◌∙◌, inr, append_assoc, arith}
use Rattle.std.proofs.lemmas.List.{length-take, take-append-drop}
use Rattle.serve_bytes.specs.declared.exact.ReadError.{ReadError}
use Rattle.serve_bytes.specs.declared.exact.ReadError.TheVariants as reads
use Rattle.serve_bytes.specs.Exact.{Skipped}
use Rattle.serve_frames.specs.declared.request.Request.{Request}
use Rattle.serve_frames.specs.declared.taking.FrameError.TheVariants.{Failed}
use Rattle.serve_frames.specs.Commands.{payload_length}
use Rattle.serve_frames.specs.Requests.{request_bytes}
use Rattle.serve_frames.specs.Taking.{Taken, PayloadTaken}

payload_passed : {T : Type 0} (tells : Type 0) (x : T) (r : Request) (old new buffer : List ℕ) (n : ℕ) → payload_length r.command r.length ≡ n → 1048576 < n
    → Skipped {T = T} tells (Ok x) old new n → PayloadTaken {T = T} tells (Ok x) r old new buffer
payload_passed tells x r old new buffer n long many skipped = record {
  whole = λ t.
      let all = skipped.whole t in
      let short : length (take n old) ≡ n = omega (arith, all.0, length-take n old) in
      record {
        payload = take n old;
        long = short ∙ sym long;
        parts = sym (take-append-drop n old) ∙ ap (λ l. take n old ++ l) (sym all.1);
        kept = λ few. absurd (omega (arith, few, short, many));
      };
  cut_off = λ t. tt;
}

skip_cut : {T : Type 0} (tells : Type 0) (e : ReadError) (r : Request) (old new buffer : List ℕ) (n : ℕ) → payload_length r.command r.length ≡ n
    → Skipped {T = T} tells (Err e) old new n → PayloadTaken {T = T} tells (Err e) r old new buffer
skip_cut tells (reads.Ended n) r old new buffer m long skipped = record {
  whole = λ t. tt;
  cut_off = λ t. (omega (arith, long, skipped.fewer, (skipped.stuck t).0), (skipped.stuck t).1);
}
skip_cut tells reads.Failed r old new buffer m long skipped = record {
  whole = λ t. tt;
  cut_off = λ t.
      let cut = skipped.stuck t in (
        take cut.0 old,
        omega (arith, long, cut.1, length-take cut.0 old),
        sym (take-append-drop cut.0 old) ∙ ap (λ l. take cut.0 old ++ l) (sym cut.3),
      );
}

-- however the bytes are passed over
pub payload_skipped : {T : Type 0} (tells : Type 0) (result : Result T ReadError) (r : Request) (old new buffer : List ℕ) (n : ℕ) → payload_length r.command r.length ≡ n
    → 1048576 < n → Skipped {T = T} tells result old new n → PayloadTaken {T = T} tells result r old new buffer
payload_skipped tells (Ok x) r old new buffer n long many skipped = payload_passed tells x r old new buffer n long many skipped
payload_skipped tells (Err e) r old new buffer n long many skipped = skip_cut tells e r old new buffer n long skipped

-- a fault amid the payload
pub frame_failed : {T : Type 0} (tells : Type 0) (r : Request) (old mid new buffer : List ℕ) (P : Request → Type 0) → Taken tells (Ok r) old mid (λ q. old ≡ request_bytes q ++ mid)
    → PayloadTaken {T = T} tells (Err reads.Failed) r mid new buffer → Taken tells (Err Failed) old new P
frame_failed tells r old mid new buffer P head payload = record {
  found = λ t. tt;
  lost = λ t.
      let cut = payload.cut_off t in (
        request_bytes r ++ cut.0,
        inr (r, cut.0, refl, cut.1),
        head.found t ∙ ap (λ l. request_bytes r ++ l) cut.2 ∙ sym (append_assoc (request_bytes r) cut.0 new),
      );
}
