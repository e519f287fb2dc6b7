-- The bytes of a request's header, all numbers big-endian.
use Rattle.std.specs.Prelude.{ℕ, ◌<◌, ◌^◌, ◌++◌, List}
use Rattle.std.specs.Int.{w16, w32, w64, to_be_bytes}
use Rattle.serve_frames.specs.declared.request.Request.{Request}
use Rattle.serve_frames.specs.Commands.{number_of, IsCommand}

-- a magic number, then flags, command, cookie, offset and length: 28 bytes
unfoldable pub request_bytes : Request → List ℕ
request_bytes r =
    to_be_bytes w32 0x25609513 ++ (to_be_bytes w16 r.flags ++ (to_be_bytes w16 (number_of r.command)
    ++ (to_be_bytes w64 r.cookie ++ (to_be_bytes w64 r.offset ++ to_be_bytes w32 r.length))))

-- what has a header
pub record Fits (r : Request) : Type 0 where
  pub flags : r.flags < 2 ^ 16
  pub command : IsCommand r.command
  pub number : number_of r.command < 2 ^ 16
  pub cookie : r.cookie < 2 ^ 64
  pub offset : r.offset < 2 ^ 64
  pub length : r.length < 2 ^ 32
