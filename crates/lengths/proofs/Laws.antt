-- What is proved of the definitions. Assumes nothing.
use Rattle.lengths.specs.Lengths.{Laws}
use Rattle.lengths.proofs.Ending.{ending}
use Rattle.lengths.proofs.Driving.{same_least, drives}

pub laws : Laws
laws = record { ending = ending; same_least = same_least; driving = drives }
