-- The laws of tests folded over a list, of the ends of the edges, and of marks by admission.
pub mod Folds
pub mod Named
pub mod Unadmitted
