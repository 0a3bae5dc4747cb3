use Rattle.std.proofs.Common.{◌+◌, ◌-◌, arith}
use Rattle.wat.specs.Settings.{lenient}
use Rattle.lex_strings.proofs.CopyLaws.{never_refused, room_raws, room_element, room_byte}
use Rattle.lex_strings.proofs.CopyLaws.{Written, written_raws, written_element, written_byte, written_quote}
use Rattle.lex_strings.proofs.decode_into.Goals as goal
use Rattle.lex_strings.proofs.decode_into.Goals.{After-copy}

-- once the raw characters are copied, the buffer begins with what has been passed
copied : (c : After-copy)
    → Written c.args.s.now c.args.at c.raw_end-j.result (c.loop-b.to + (c.raw_end-j.result - c.loop-b.i)) c.args.dst.now c.copy.new.dst
copied c = written_raws c.loop-b.invariant c.raw_end-j.ensures c.copy.ensures

pub copy-requires : goal.copy-requires
copy-requires c =
    let r = c.raw_end-j.ensures in
    (room_raws c.loop-b.invariant c.requires.closes.1 c.requires.room r, omega (arith, r.order, r.fits))

pub bounds-dst-to : goal.bounds-dst-to
bounds-dst-to c =
    room_byte (copied (goal.at.bounds-dst-to c).After-copy) c.requires.closes.1 c.requires.room
    (c.in-Some.ensures lenient)

pub loop-b-smaller-in-Some : goal.loop-b-smaller-in-Some
loop-b-smaller-in-Some c =
    let w = copied (goal.at.loop-b-smaller-in-Some c).After-copy in
    let x = written_byte w c.requires.closes.1 c.requires.room (c.in-Some.ensures lenient) in
    omega (arith, x.passed.within, c.raw_end-j.ensures.order)

pub loop-b-preserved-in-Some : goal.loop-b-preserved-in-Some
loop-b-preserved-in-Some c =
    written_byte (copied (goal.at.loop-b-preserved-in-Some c).After-copy) c.requires.closes.1 c.requires.room
    (c.in-Some.ensures lenient)

pub bounds-dst-to-in-Byte : goal.bounds-dst-to-in-Byte
bounds-dst-to-in-Byte c =
    room_byte (copied (goal.at.bounds-dst-to-in-Byte c).After-copy) c.requires.closes.1 c.requires.room
    c.in-Byte.ensures

pub loop-b-preserved-in-Byte : goal.loop-b-preserved-in-Byte
loop-b-preserved-in-Byte c =
    written_byte (copied (goal.at.loop-b-preserved-in-Byte c).After-copy) c.requires.closes.1 c.requires.room
    c.in-Byte.ensures

pub encode_utf8-to-requires : goal.encode_utf8-to-requires
encode_utf8-to-requires c =
    let x = c.in-Char.ensures in
    let w = copied (goal.at.encode_utf8-to-requires c).After-copy in
    (x.1, room_element w c.requires.closes.1 c.requires.room x.0)

pub loop-b-preserved : goal.loop-b-preserved
loop-b-preserved c =
    let e = c.encode_utf8-to.ensures in
    written_element (copied (goal.at.loop-b-preserved c).After-copy) c.in-Char.ensures.0 e.long e.put

pub returns-in-Quote : goal.returns-in-Quote
returns-in-Quote c = written_quote (copied (goal.at.returns-in-Quote c).After-copy) c.in-Quote.ensures.0

pub returns-in-Refused : goal.returns-in-Refused
returns-in-Refused c =
    let x = copied (goal.at.returns-in-Refused c).After-copy in
    absurd (never_refused x.passed c.in-Refused.ensures c.requires.closes.1)
