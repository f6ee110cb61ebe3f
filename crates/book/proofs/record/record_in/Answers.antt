use Rattle.std.proofs.Common.{sym}
use Rattle.book.proofs.Laws.Rest.{rest_under, record_short, record_whole, record_unknown}
use Rattle.book.proofs.record.record_in.Goals as goal

pub returns-then-rest-lt-FRONT_SIZE : goal.returns-then-rest-lt-FRONT_SIZE
returns-then-rest-lt-FRONT_SIZE c = sym (rest_under _ _ c.if-rest-lt-FRONT_SIZE.true)

pub returns-then-rest-length : goal.returns-then-rest-length
returns-then-rest-length c =
    record_short _ _ c.if-rest-lt-FRONT_SIZE.false _ c.from-version.ensures _ c.hour_version.ensures c.if-hour_version.true _ c.whole_length-length.ensures.0 c.if-rest-length.true

pub returns-then-hour_version : goal.returns-then-hour_version
returns-then-hour_version c =
    record_whole _ _ c.if-rest-lt-FRONT_SIZE.false _ c.from-version.ensures _ c.hour_version.ensures c.if-hour_version.true _ c.whole_length-length.ensures.0 c.if-rest-length.false

pub returns : goal.returns
returns c = record_unknown _ _ c.if-rest-lt-FRONT_SIZE.false _ c.from-version.ensures _ c.hour_version.ensures c.if-hour_version.false
