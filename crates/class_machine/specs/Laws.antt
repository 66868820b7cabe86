-- The laws that crates above cite. Each is proved from the definitions beside this file, so none has to be believed.
--     effect_kept          what an instruction does to what its frame holds is the same with return addresses renamed, more
--                          room, and more locals behind: once over all forms
--     built-grown          so is putting an object in place of a token
--     turn_kept            the turn of a frame whose instruction stands elsewhere, where what it asks is answered alike
--     taken_kept, link_kept      its parts: the effect that is taken, and the search
--     taking_kept, constructing_kept, resuming_kept      a frame that waits for a result, or for a text
--     catching_kept, handler_kept      a frame that catches an exception
--     widened_kept         a test that became the opposite test over a jump
--     turn_same            turn_kept where the classes and the world are the same: nothing else is asked
--     step_kept, moved_equivalent      the whole machine over code that is laid out at other places
--     selects_over_heads   the method that a call runs is the one that is selected over the heads of the classes
pub mod EffectKept
pub mod TurnKept
pub mod WaitingKept
pub mod Widened
pub mod SameWorld
pub mod Moved
pub mod Selection
