use Rattle.separation.proofs.candidates.least_cut.Given as goal

abbrev pub ghosts-least_cut_from : goal.ghosts-least_cut_from
ghosts-least_cut_from a = record { name = a.blank.name; parts = a.blank.parts }
