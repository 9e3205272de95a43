-- `find_place` refuses file number 0, and else goes by the key. Assumes nothing.
use Rattle.placing.proofs.Puts.{file_retired, file_placed}
use Rattle.placing.proofs.find_place.Goals as goal

pub returns-then-value-eq0 : goal.returns-then-value-eq0
returns-then-value-eq0 c = file_retired _ _ _ _ c.if-value-eq0.true

pub returns : goal.returns
returns c = file_placed _ _ _ _ c.if-value-eq0.false c.place_key.ensures
