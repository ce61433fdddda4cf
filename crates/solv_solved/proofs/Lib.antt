mod Fronts
mod Built
mod JobsAnew
mod ProvedProblems
mod WhatIsHeld
