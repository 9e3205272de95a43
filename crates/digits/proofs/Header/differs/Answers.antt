-- `differs` tells whether a stored digit differs from the key's; of a prefix of length 0 none is compared. Assumes nothing.
use Rattle.std.proofs.Common.{sym, arith}
use Rattle.digits.proofs.Differs.{alike_none_differs, computed_tells}
use Rattle.digits.proofs.Header.differs.Goals as goal

pub returns-then-length-eq0 : goal.returns-then-length-eq0
returns-then-length-eq0 c = sym (alike_none_differs 16 _ _ (λ i l. absurd (omega (arith, c.unpack-h.ensures.1))))

pub returns : goal.returns
returns c =
    let u = c.unpack-h.ensures in
    rw (u.0, u.1) (computed_tells _ _ c.requires)
