-- `listing` meets its contract. Assumes nothing.
use native.Mathlib.Omega.{arith}
use Rattle.listing_text.proofs.Outcome.{whole_text, listing_long, listing_read}
use Rattle.listing_text.proofs.listing.Goals as goal

pub returns-then-input-gt-LISTING_BYTES : goal.returns-then-input-gt-LISTING_BYTES
returns-then-input-gt-LISTING_BYTES c =
    let t = let s = c.args.input.now in
    whole_text _ c.put_refused.ensures (omega arith) (listing_long s c.if-input-gt-LISTING_BYTES.true) in
    record { text_after = t.0; value = t.1.0; upper_bound = t.1.1 }

pub returns : goal.returns
returns c =
    let t = let s = c.args.input.now in
    whole_text _ c.put_read.ensures (omega arith)
    (listing_read s c.if-input-gt-LISTING_BYTES.false) in
    record { text_after = t.0; value = t.1.0; upper_bound = t.1.1 }
