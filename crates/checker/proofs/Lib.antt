-- The theorem: the verdict that is computed is the one that the rules give.
pub mod Whole
-- The code: who is in step; frames as nodes; the two recursions, what they find and what they ask;
-- modules, the whole file, the text.
pub mod LabelLaws
pub mod NodeLaws
pub mod FineFrames
pub mod TypingLaws
pub mod DescentLaws
pub mod EffectLaws
pub mod ModuleLaws
pub mod CheckLaws
